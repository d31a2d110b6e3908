use Rattle.text.proofs.Counting.{Sofar}
use Rattle.text.proofs.line.visual_line_count.Given as goal

abbrev pub invariant-loop-line : goal.invariant-loop-line
invariant-loop-line g l = Sofar l.width (g.R.WidthRule.cells l.rule) l.lines l.line-index l.rows
