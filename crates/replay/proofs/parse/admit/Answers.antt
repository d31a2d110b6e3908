use Rattle.std.proofs.Common.{ℕ, List, sym, refl, subst}
use Rattle.replay.specs.Commands.{an_admit}
use Rattle.script.specs.Escapes.{Means}
use Rattle.replay.specs.Grammar.{tail}
use Rattle.replay.specs.Orders.{admit}
use Rattle.replay.proofs.Reading.{means_all, read_as}
use Rattle.replay.proofs.parse.admit.Goals as goal

pub returns : goal.returns
returns c =
    let t = c.in_ok-text.ensures in
    let bs : List ℕ = t.1.0 in
    read_as refl (admit bs) (an_admit (subst (λ raw. Means raw bs) (sym t.0) (means_all t.1))) refl (tail t.1.1)
