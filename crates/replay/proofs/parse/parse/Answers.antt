use Rattle.std.proofs.Common.{Ok, sym, ap, ◌∙◌}
use Rattle.replay.specs.declared.words.Verb.TheVariants.{Measure, Admit, Limiter, Position}
use Rattle.replay.proofs.RoundTrip.{round}
use Rattle.replay.proofs.Reading.{lifted, not_due}
use Rattle.replay.proofs.Taking.{passed}
use Rattle.replay.proofs.parse.parse.Goals as goal

pub returns-in_err-try_from : goal.returns-in_err-try_from
returns-in_err-try_from c =
    let h = passed c.from_residual.result _ _ _ c.from_residual.ensures.1 (not_due c.split-words.ensures (sym c.in_err-try_from.ensures)) in
    record { reads = h; round = round _ h }

pub returns-in-Measure : goal.returns-in-Measure
returns-in-Measure c =
    let h = lifted c.measure.result Measure c.split-words.ensures (sym c.in_ok-try_from.ensures ∙ ap Ok c.in-Measure.is) c.measure.ensures in
    record { reads = h; round = round _ h }

pub returns-in-Admit : goal.returns-in-Admit
returns-in-Admit c =
    let h = lifted c.admit.result Admit c.split-words.ensures (sym c.in_ok-try_from.ensures ∙ ap Ok c.in-Admit.is) c.admit.ensures in
    record { reads = h; round = round _ h }

pub returns-in-Limiter : goal.returns-in-Limiter
returns-in-Limiter c =
    let h = lifted c.limiter.result Limiter c.split-words.ensures (sym c.in_ok-try_from.ensures ∙ ap Ok c.in-Limiter.is) c.limiter.ensures in
    record { reads = h; round = round _ h }

pub returns-in-Position : goal.returns-in-Position
returns-in-Position c =
    let h = lifted c.position.result Position c.split-words.ensures (sym c.in_ok-try_from.ensures ∙ ap Ok c.in-Position.is) c.position.ensures in
    record { reads = h; round = round _ h }
