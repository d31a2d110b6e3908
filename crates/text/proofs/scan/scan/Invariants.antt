use Rattle.std.proofs.Common.{length}
use Rattle.text.proofs.Scanning.{Sofar}
use Rattle.text.proofs.scan.scan.Given as goal

abbrev pub invariant-loop-rest : goal.invariant-loop-rest
invariant-loop-rest g l = Sofar l.width (g.R.WidthRule.cells l.rule) l.text l.reader l.metrics l.rest

abbrev pub decreases-loop-rest : goal.decreases-loop-rest
decreases-loop-rest g l = length l.rest
