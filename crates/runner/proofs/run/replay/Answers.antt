use Rattle.std.proofs.Common.{rules, refl}
use Rattle.std.proofs.lemmas.Bool.{false≢true}
use Rattle.runner.proofs.Running.{skipped, answered, halts_at, finished}
use Rattle.runner.proofs.run.replay.Goals as goal

pub loop-i-preserved-then-is_skipped : goal.loop-i-preserved-then-is_skipped
loop-i-preserved-then-is_skipped c =
    let step = c.in-Some.ensures.steps in
    (search rules, search rules, rw step.2 (skipped _ _ _ _ _ _ _ _ _ c.loop-i.invariant.2 step.0 (c.if-is_skipped.ensures.0 refl)))

pub loop-i-preserved : goal.loop-i-preserved
loop-i-preserved c =
    let step = c.in-Some.ensures.steps in (
      search rules,
      search rules,
      rw step.2 (answered _ _ _ _ _ _ _ _ _ c.loop-i.invariant.2 step.0 (λ k. false≢true (c.if-is_skipped.ensures.1 k)) c.in-Ok.answer _ _ _ c.in-Ok.ensures.0 c.in-Ok.ensures.1 c.count-summary.ensures),
    )

pub returns-in-Err : goal.returns-in-Err
returns-in-Err c =
    let step = c.in-Some.ensures.steps in
    rw step.1 (halts_at _ _ _ _ _ _ _ _ _ c.loop-i.invariant.2 step.0 (λ k. false≢true (c.if-is_skipped.ensures.1 k)) c.in-Err.halt _ _ c.in-Err.ensures)

pub returns : goal.returns
returns c = finished _ _ _ _ _ _ _ c.loop-i.invariant.2 c.in-None.ensures.steps.0.0
