use Rattle.std.proofs.Common.{◌++◌, decimal}
use Rattle.trace.proofs.Appending.{and_then, front_more, stopped_at}
use Rattle.trace.proofs.put.put_two.Goals as goal

pub returns-in_err-put_numbered : goal.returns-in_err-put_numbered
returns-in_err-put_numbered c = stopped_at _ c.from_residual.ensures.0 (front_more _ c.in_err-put_numbered.ensures)

pub returns : goal.returns
returns c =
    and_then (c.args.first.now ++ decimal c.args.m) (c.args.second.now ++ decimal c.args.n) _ _ _ c.in_ok-put_numbered.ensures c.put_numbered-2.ensures
