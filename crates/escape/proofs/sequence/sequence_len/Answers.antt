use Rattle.std.proofs.Common.{◌≡◌, length, sym, ap, ◌∙◌, subst, arith, Some, inl, inr}
use Rattle.escape.proofs.Scan.{Sofar, more, found, refused, some, nothing, unclosed}
use Rattle.escape.proofs.sequence.sequence_len.Goals as goal

pub returns-in_err-step : goal.returns-in_err-step
returns-in_err-step c =
    let a = nothing _ (refused c.args.s.now c.loop-i.i _ _ c.loop-i-test.true c.loop-i.invariant c.step.ensures.state _ (inr c.in_err-step.was) c.step.ensures.value) in
    simp c.from_residual.ensures (record { found = a.found; all = a.all })

pub returns-in-Plain : goal.returns-in-Plain
returns-in-Plain c =
    let plain = c.in_ok-step.was ∙ ap Some c.in-Plain.is in
    let a = nothing _ (refused c.args.s.now c.loop-i.i _ _ c.loop-i-test.true c.loop-i.invariant c.step.ensures.state _ (inl plain) c.step.ensures.value) in
    record { found = a.found; all = a.all }

pub returns-in-Colour : goal.returns-in-Colour
returns-in-Colour c =
    let colour = sym (c.in_ok-step.was ∙ ap Some c.in-Colour.is) ∙ c.step.ensures.value in
    let a = some _ _ (found c.args.s.now c.loop-i.i _ _ c.loop-i-test.true c.loop-i.invariant c.step.ensures.state colour c.if-is_ground.ensures) in
    record { found = a.found; all = a.all }

pub loop-i-preserved : goal.loop-i-preserved
loop-i-preserved c =
    let colour = sym (c.in_ok-step.was ∙ ap Some c.in-Colour.is) ∙ c.step.ensures.value in
    more c.args.s.now c.loop-i.i _ _ c.loop-i-test.true c.loop-i.invariant c.step.ensures.state colour c.if-is_ground.ensures

pub returns : goal.returns
returns c =
    let end : c.loop-i.i ≡ length c.args.s.now = omega arith in
    let a = nothing _ (unclosed c.args.s.now _ (subst (λ i. Sofar c.args.s.now i c.loop-i.reader) end c.loop-i.invariant)) in
    record { found = a.found; all = a.all }
