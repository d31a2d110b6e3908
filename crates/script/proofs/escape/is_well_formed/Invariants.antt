use Rattle.std.proofs.Common.{ℕ, List}
use Rattle.script.specs.Escapes.{Spelt}
use Rattle.script.proofs.escape.is_well_formed.Given as goal

abbrev pub invariant-loop : goal.invariant-loop
invariant-loop l = (bs : List ℕ) × Spelt l.text bs l.bytes
