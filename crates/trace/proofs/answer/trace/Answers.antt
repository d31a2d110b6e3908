use Rattle.std.proofs.Common.{[], ◌∷◌, codes}
use Rattle.trace.specs.Traces.{shown}
use Rattle.trace.proofs.Appending.{and_then, front_more, front_then, stopped_at}
use Rattle.trace.proofs.answer.trace.Goals as goal

pub returns-in_err-put : goal.returns-in_err-put
returns-in_err-put c = stopped_at _ c.from_residual.ensures.0 (front_more _ c.in_err-put.ensures)

pub returns-in_err-put-2 : goal.returns-in_err-put-2
returns-in_err-put-2 c = stopped_at _ c.from_residual-in_err-put-2.ensures.0 (front_then _ c.in_ok-put.ensures (front_more _ c.in_err-put-2.ensures))

pub returns-in_err-put-3 : goal.returns-in_err-put-3
returns-in_err-put-3 c =
    stopped_at _ c.from_residual-in_err-put-3.ensures.0 (front_then _ c.in_ok-put.ensures (front_then _ c.in_ok-put-2.ensures (front_more _ c.in_err-put-3.ensures)))

pub returns-in_err-show : goal.returns-in_err-show
returns-in_err-show c =
    stopped_at _ c.from_residual-in_err-show.ensures.0 (front_then _ c.in_ok-put.ensures (front_then _ c.in_ok-put-2.ensures (front_then _ c.in_ok-put-3.ensures (front_more _ c.in_err-show.ensures))))

pub returns : goal.returns
returns c =
    and_then (codes "> ") _ _ _ _ c.in_ok-put.ensures
    (and_then c.args.line.now _ _ _ _ c.in_ok-put-2.ensures (and_then (10 ∷ []) _ _ _ _ c.in_ok-put-3.ensures (and_then (shown c.args.answer.now) _ _ _ _ c.in_ok-show.ensures c.put-4.ensures)))
