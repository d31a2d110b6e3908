use Rattle.replay.proofs.Tables.{reads_rule}
use Rattle.replay.proofs.words.RuleTryFromRefSliceU8.try_from.Goals as goal

pub returns : goal.returns
returns c = rw c.ok_or.ensures.value (reads_rule c.args.word.now c.look_up.result c.look_up.ensures)
