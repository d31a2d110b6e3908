use Rattle.std.proofs.Common.{ℕ, List, sym, refl, subst}
use Rattle.replay.specs.Commands.{a_measure}
use Rattle.script.specs.Escapes.{Means}
use Rattle.replay.specs.Grammar.{tail}
use Rattle.replay.specs.Orders.{measure}
use Rattle.replay.proofs.Reading.{means_all, read_as, stop_as}
use Rattle.replay.proofs.Taking.{stops_here, stops_on, on}
use Rattle.replay.proofs.parse.measure.Goals as goal

pub returns-in_err-number : goal.returns-in_err-number
returns-in_err-number c = stop_as c.from_residual.result _ refl c.from_residual.ensures.1 (stops_here c.in_err-number.ensures)

pub returns-in_err-rule : goal.returns-in_err-rule
returns-in_err-rule c =
    stop_as c.from_residual-in_err-rule.result _ refl c.from_residual-in_err-rule.ensures.1 (stops_on c.in_ok-number.ensures (stops_here c.in_err-rule.ensures))

pub returns-in_err-text : goal.returns-in_err-text
returns-in_err-text c =
    stop_as c.from_residual-in_err-text.result _ refl c.from_residual-in_err-text.ensures.1 (stops_on c.in_ok-number.ensures (stops_on c.in_ok-rule.ensures c.in_err-text.ensures))

pub returns : goal.returns
returns c =
    let t = c.in_ok-text.ensures in
    let bs : List ℕ = t.1.0 in
    read_as refl (measure c.in_ok-number.field-0 c.in_ok-rule.field-0 bs) (a_measure (subst (λ raw. Means raw bs) (sym t.0) (means_all t.1))) refl (on c.in_ok-number.ensures (on c.in_ok-rule.ensures (tail t.1.1)))
