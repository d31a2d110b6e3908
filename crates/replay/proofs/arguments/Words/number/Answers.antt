use Rattle.replay.proofs.Taking.{passed, halted_end, took_number}
use Rattle.replay.proofs.arguments.Words.number.Goals as goal

pub returns-in_err-word : goal.returns-in_err-word
returns-in_err-word c = passed c.from_residual.result _ _ _ c.from_residual.ensures.1 (halted_end (λ e. cc) c.in_err-word.ensures)

pub returns : goal.returns
returns c = rw c.ok_or.ensures.value (took_number c.read_number.result c.in_ok-word.ensures c.read_number.ensures)
