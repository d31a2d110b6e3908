use Rattle.replay.proofs.Taking.{passed, halted_end, took_rule}
use Rattle.replay.proofs.arguments.Words.rule.Goals as goal

pub returns-in_err-word : goal.returns-in_err-word
returns-in_err-word c = passed c.from_residual.result _ _ _ c.from_residual.ensures.1 (halted_end (λ e. cc) c.in_err-word.ensures)

pub returns : goal.returns
returns c = took_rule c.try_from.result c.in_ok-word.ensures c.try_from.ensures
