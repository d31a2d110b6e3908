use Rattle.std.proofs.Common.{length}
use Rattle.text.proofs.Walking.{Sofar}
use Rattle.text.proofs.characters.CharactersIterator.next.Given as goal

abbrev pub invariant-loop-c : goal.invariant-loop-c
invariant-loop-c l = Sofar l.initial.self.reader l.initial.self.rest.now l.self.reader l.self.rest.now

abbrev pub decreases-loop-c : goal.decreases-loop-c
decreases-loop-c l = length l.self.rest.now
