use Rattle.terminal.proofs.Lines.{shows_measured}
use Rattle.terminal.proofs.operation.operate.Goals as goal

pub returns-clause-rows : goal.returns-clause-rows
returns-clause-rows g c = shows_measured g.T.TermLike.laws c.apply.ensures
