use Rattle.replay.proofs.Taking.{passed, stops_here, stops_on, on}
use Rattle.replay.proofs.arguments.Words.last_number.Goals as goal

pub returns-in_err-n : goal.returns-in_err-n
returns-in_err-n c = passed c.from_residual.result _ _ _ c.from_residual.ensures.1 (stops_here c.in_err-n.ensures)

pub returns-in_err-end : goal.returns-in_err-end
returns-in_err-end c = passed c.from_residual-in_err-end.result _ _ _ c.from_residual-in_err-end.ensures.1 (stops_on c.in_ok-n.ensures c.in_err-end.ensures)

pub returns : goal.returns
returns c = on c.in_ok-n.ensures c.in_ok-end.ensures
