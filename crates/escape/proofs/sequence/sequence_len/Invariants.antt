use Rattle.escape.proofs.Scan.{Sofar}
use Rattle.escape.proofs.sequence.sequence_len.Given as goal

abbrev pub invariant-loop-i : goal.invariant-loop-i
invariant-loop-i l = Sofar l.s l.i l.reader
