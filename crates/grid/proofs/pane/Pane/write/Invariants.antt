use Rattle.grid.proofs.Writing.{Writing}
use Rattle.grid.proofs.pane.Pane.write.Given as goal

abbrev pub invariant-loop-c : goal.invariant-loop-c
invariant-loop-c g l = Writing (g.R.WidthRule.cells l.rule) l.text l.initial.self l.c-iterator l.self
