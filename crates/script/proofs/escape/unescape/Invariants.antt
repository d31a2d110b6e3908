use Rattle.std.proofs.Common.{◌≡◌, ◌++◌, vec_items}
use Rattle.script.specs.Escapes.{Spelt}
use Rattle.script.proofs.escape.unescape.Given as goal

abbrev pub invariant-loop-b : goal.invariant-loop-b
invariant-loop-b l = (vec_items l.out ≡ vec_items l.initial.out ++ l.yielded) × Spelt l.text l.yielded l.b-iterator
