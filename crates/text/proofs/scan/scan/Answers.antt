use Rattle.std.proofs.Common.{rules, sym, ap, ◌∙◌, Some}
use Rattle.text.proofs.Scanning.{no_char, refused, plain, colour, ended}
use Rattle.text.proofs.scan.scan.Goals as goal

pub returns-in_err-c : goal.returns-in_err-c
returns-in_err-c g c = simp c.from_residual.ensures (no_char _ _ _ _ _ _ c.loop-rest.invariant (search rules) c.in_err-c.ensures.read)

pub returns-in_err-read : goal.returns-in_err-read
returns-in_err-read g c = simp c.from_residual-in_err-read.ensures (refused _ _ _ _ _ _ _ _ c.loop-rest.invariant c.in_ok-c.ensures.read (sym c.in_err-read.was ∙ c.read.ensures.value))

pub loop-rest-preserved-in-Plain : goal.loop-rest-preserved-in-Plain
loop-rest-preserved-in-Plain g c =
    let verdict = sym (c.in_ok-read.was ∙ ap Some c.in-Plain.is) ∙ c.read.ensures.value in
    plain _ _ _ _ _ _ _ _ _ _ _ c.requires ((g.R.WidthRule.lawful c.args.rule.now).narrow c.in_ok-c.c) c.loop-rest.invariant c.in_ok-c.ensures.read verdict c.read.ensures.state c.width.ensures c.place-metrics.ensures

pub loop-rest-preserved : goal.loop-rest-preserved
loop-rest-preserved g c =
    let verdict = sym (c.in_ok-read.was ∙ ap Some c.in-Colour.is) ∙ c.read.ensures.value in
    colour _ _ _ _ _ _ _ _ _ c.loop-rest.invariant c.in_ok-c.ensures.read verdict c.read.ensures.state

pub returns : goal.returns
returns g c = rw c.then_some.ensures (ended _ _ _ _ _ _ c.is_ground.result c.loop-rest.invariant (search rules) c.is_ground.ensures)
