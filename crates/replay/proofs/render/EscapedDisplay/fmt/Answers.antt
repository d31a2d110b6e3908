use Rattle.std.proofs.Common.{◌++◌, sym, ap, ◌∙◌, append_assoc, append-nil, rules}
use Rattle.std.proofs.Output.{has_written_append, has_written_of_eq}
use Rattle.replay.specs.Rendering.{escaped, escaped_byte}
use Rattle.replay.proofs.Renders.{meaning-byte, meaning-end}
use Rattle.replay.proofs.render.EscapedDisplay.fmt.Goals as goal

pub loop-b-preserved : goal.loop-b-preserved
loop-b-preserved g c = (
  tt,
  tt,
  λ plain.
      let now = c.loop-b.invariant.2 plain in
      let b = c.in-Some.b in (
        now.0 ++ escaped_byte b,
        has_written_append _ _ _ _ _ _ now.1 (search rules),
        append_assoc now.0 (escaped_byte b) _ ∙ ap (λ l. now.0 ++ escaped l) (sym (meaning-byte c.in-Some.ensures.steps)) ∙ now.2,
      ),
)

pub returns-clause-writes : goal.returns-clause-writes
returns-clause-writes g c = λ plain _.
    let now = c.loop-b.invariant.2 plain in
    has_written_of_eq _ _ _ _ _ (sym (append-nil now.0) ∙ ap (λ l. now.0 ++ escaped l) (sym (meaning-end c.in-None.ensures.steps.0)) ∙ now.2) now.1
