use Rattle.std.proofs.Common.{sym, ap, ◌∙◌, Some}
use Rattle.text.proofs.Walking.{plain, colour, refused, ended}
use Rattle.text.proofs.characters.CharactersIterator.next.Goals as goal

pub returns-in_err-read-clause-steps : goal.returns-in_err-read-clause-steps
returns-in_err-read-clause-steps c =
    simp c.from_residual.ensures (refused _ _ _ _ _ _ _ c.loop-c.invariant c.in-Some.ensures.read c.read.ensures.state (sym c.in_err-read.was ∙ c.read.ensures.value))

pub returns-in-Plain-clause-steps : goal.returns-in-Plain-clause-steps
returns-in-Plain-clause-steps c =
    let verdict = sym (c.in_ok-read.was ∙ ap Some c.in-Plain.is) ∙ c.read.ensures.value in
    plain _ _ _ _ _ _ _ c.loop-c.invariant c.in-Some.ensures.read c.read.ensures.state verdict

pub loop-c-preserved : goal.loop-c-preserved
loop-c-preserved c =
    let verdict = sym (c.in_ok-read.was ∙ ap Some c.in-Colour.is) ∙ c.read.ensures.value in
    colour _ _ _ _ _ _ _ c.loop-c.invariant c.in-Some.ensures.read c.read.ensures.state verdict

pub returns-clause-steps : goal.returns-clause-steps
returns-clause-steps c = ended _ _ _ _ c.loop-c.invariant c.in_default.ensures.read
