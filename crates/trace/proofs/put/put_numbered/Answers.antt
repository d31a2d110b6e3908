use Rattle.std.proofs.Common.{decimal}
use Rattle.trace.proofs.Appending.{and_then, front_more, stopped_at}
use Rattle.trace.proofs.put.put_numbered.Goals as goal

pub returns-in_err-put : goal.returns-in_err-put
returns-in_err-put c = stopped_at _ c.from_residual.ensures.0 (front_more _ c.in_err-put.ensures)

pub returns : goal.returns
returns c = and_then c.args.name.now (decimal c.args.n) _ _ _ c.in_ok-put.ensures c.put_decimal.ensures
