use Rattle.replay.proofs.Taking.{skipped}
use Rattle.replay.proofs.arguments.Words.skip.Goals as goal

pub returns : goal.returns
returns c = skipped _ _ c.word.result c.word.ensures
