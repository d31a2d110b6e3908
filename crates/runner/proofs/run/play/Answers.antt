use Rattle.std.proofs.Common.{◌++◌, ap, ◌∙◌, subst}
use Rattle.std.proofs.lemmas.Result.{err_from_is_err_and}
use Rattle.script.specs.Escapes.{Means}
use Rattle.runner.proofs.Playing.{played, lacking}
use Rattle.runner.proofs.run.play.Goals as goal

pub returns-in_err-answer : goal.returns-in_err-answer
returns-in_err-answer c =
    let text = c.in_ok-unescape.ensures in
    let error = err_from_is_err_and c.from_residual-in_err-answer.result c.from_residual-in_err-answer.ensures.1 in
    rw (error.1, error.2) (lacking c.args.line.now text.bytes c.deref.result.now c.in_ok-command.command _ _ c.perform.result c.in_ok-command.ensures.reads (subst (λ raw. Means raw text.bytes) c.text.ensures text.far) (c.deref.ensures.value ∙ text.added ∙ ap (λ l. l ++ text.bytes) c.new-text.ensures.items) c.perform.ensures.answer c.perform.ensures.after _ _ c.in_err-answer.ensures.ok_part c.in_err-answer.ensures.value)

pub returns : goal.returns
returns c =
    let text = c.in_ok-unescape.ensures in
    (played c.args.line.now text.bytes c.deref.result.now c.in_ok-command.command _ _ c.perform.result c.in_ok-command.ensures.reads (subst (λ raw. Means raw text.bytes) c.text.ensures text.far) (c.deref.ensures.value ∙ text.added ∙ ap (λ l. l ++ text.bytes) c.new-text.ensures.items) c.perform.ensures.answer c.perform.ensures.after _ c.in_ok-answer.ensures.ok_part, c.in_ok-trace.ensures)
