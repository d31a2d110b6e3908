use Rattle.std.proofs.Common.{vec_items}
use Rattle.std.specs.Iterator.Adapters.{enumerate_source, enumerate_count}
use Rattle.runner.specs.Answers.{state}
use Rattle.runner.proofs.Running.{Sofar}
use Rattle.runner.proofs.run.replay.Given as goal

abbrev pub invariant-loop-i : goal.invariant-loop-i
invariant-loop-i l =
    (goal.iterator-loop-i).can_next l.i-iterator
    × (goal.iterator-loop-i).is_finite l.i-iterator
    × Sofar l.script (vec_items l.initial.out) (state l.rack) (enumerate_source l.i-iterator) (vec_items l.out) (enumerate_count l.i-iterator) l.summary
