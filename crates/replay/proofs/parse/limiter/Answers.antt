use Rattle.std.proofs.Common.{◌≡◌, Some, refl, ap, sym, ◌∙◌, rules}
use Rattle.replay.specs.declared.words.Choice.TheVariants.{Allow}
use Rattle.replay.specs.Commands.{a_limiter, a_limiter_allow}
use Rattle.replay.specs.Forms.{limiter_form, limiter_form_of, head}
use Rattle.replay.specs.Orders.{limiter, limiter_allow}
use Rattle.replay.specs.Words.{choice}
use Rattle.replay.proofs.Reading.{chosen, read_as, stop_as}
use Rattle.replay.proofs.Taking.{stops_here, stops_on, on}
use Rattle.replay.proofs.parse.limiter.Goals as goal

pub returns-in_err-last_number : goal.returns-in_err-last_number
returns-in_err-last_number c =
    let is : choice (head c.args.words) ≡ Some Allow = cc in
    let took = chosen c.args.words _ Allow is c.skip.ensures in
    stop_as c.from_residual.result _ (ap limiter_form_of (sym is)) c.from_residual.ensures.1 (stops_on took c.in_err-last_number.ensures)

pub returns-in-Some-Allow : goal.returns-in-Some-Allow
returns-in-Some-Allow c =
    let is : choice (head c.args.words) ≡ Some Allow = cc in
    let took = chosen c.args.words _ Allow is c.skip.ensures in
    read_as (ap limiter_form_of (sym is)) (limiter_allow c.in_ok-last_number.field-0) a_limiter_allow refl (on took c.in_ok-last_number.ensures)

pub returns-in_err-rate : goal.returns-in_err-rate
returns-in_err-rate c =
    let is : limiter_form ≡ limiter_form_of c.choice.result = search rules in
    stop_as c.from_residual-in_err-rate.result _ (is ∙ ap limiter_form_of c.choice.ensures) c.from_residual-in_err-rate.ensures.1 (stops_here c.in_err-rate.ensures)

pub returns-in_err-last_number-2 : goal.returns-in_err-last_number-2
returns-in_err-last_number-2 c =
    let is : limiter_form ≡ limiter_form_of c.choice.result = search rules in
    stop_as c.from_residual-in_err-last_number-2.result _ (is ∙ ap limiter_form_of c.choice.ensures) c.from_residual-in_err-last_number-2.ensures.1 (stops_on c.in_ok-rate.ensures c.in_err-last_number-2.ensures)

pub returns : goal.returns
returns c =
    let is : limiter_form ≡ limiter_form_of c.choice.result = search rules in
    read_as (is ∙ ap limiter_form_of c.choice.ensures) (limiter c.in_ok-rate.field-0 c.in_ok-last_number-2.field-0) a_limiter refl (on c.in_ok-rate.ensures c.in_ok-last_number-2.ensures)
