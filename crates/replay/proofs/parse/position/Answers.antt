use Rattle.std.proofs.Common.{◌≡◌, Some, None, refl, ap, sym}
use Rattle.replay.specs.declared.words.Choice.TheVariants.{Allow, Reset, Set, Get}
use Rattle.replay.specs.Commands.{a_position, a_position_allow, a_position_reset, a_position_set, a_position_get}
use Rattle.replay.specs.Forms.{position_form_of, head}
use Rattle.replay.specs.Orders.{position, position_allow, position_reset, position_set, position_get}
use Rattle.replay.specs.Words.{choice}
use Rattle.replay.proofs.Reading.{chosen, read_as, stop_as}
use Rattle.replay.proofs.Taking.{stops_on, on}
use Rattle.replay.proofs.parse.position.Goals as goal

pub returns-in_default : goal.returns-in_default
returns-in_default c =
    let is : choice (head c.args.words) ≡ None = cc in
    read_as (ap position_form_of (sym is)) (position c.in_ok-last_number.field-0) a_position refl c.in_ok-last_number.ensures

pub returns-in_err-last_number-in-Allow : goal.returns-in_err-last_number-in-Allow
returns-in_err-last_number-in-Allow c =
    let is : choice (head c.args.words) ≡ Some Allow = cc in
    let took = chosen c.args.words _ Allow is c.skip.ensures in
    stop_as c.from_residual-in_err-last_number-in-Allow.result _ (ap position_form_of (sym is)) c.from_residual-in_err-last_number-in-Allow.ensures.1 (stops_on took c.in_err-last_number-in-Allow.ensures)

pub returns-in_ok-last_number-in-Allow : goal.returns-in_ok-last_number-in-Allow
returns-in_ok-last_number-in-Allow c =
    let is : choice (head c.args.words) ≡ Some Allow = cc in
    let took = chosen c.args.words _ Allow is c.skip.ensures in
    read_as (ap position_form_of (sym is)) (position_allow c.in_ok-last_number-in-Allow.field-0) a_position_allow refl (on took c.in_ok-last_number-in-Allow.ensures)

pub returns-in_err-last_number-in-Reset : goal.returns-in_err-last_number-in-Reset
returns-in_err-last_number-in-Reset c =
    let is : choice (head c.args.words) ≡ Some Reset = cc in
    let took = chosen c.args.words _ Reset is c.skip.ensures in
    stop_as c.from_residual-in_err-last_number-in-Reset.result _ (ap position_form_of (sym is)) c.from_residual-in_err-last_number-in-Reset.ensures.1 (stops_on took c.in_err-last_number-in-Reset.ensures)

pub returns-in_ok-last_number-in-Reset : goal.returns-in_ok-last_number-in-Reset
returns-in_ok-last_number-in-Reset c =
    let is : choice (head c.args.words) ≡ Some Reset = cc in
    let took = chosen c.args.words _ Reset is c.skip.ensures in
    read_as (ap position_form_of (sym is)) (position_reset c.in_ok-last_number-in-Reset.field-0) a_position_reset refl (on took c.in_ok-last_number-in-Reset.ensures)

pub returns-in_err-last_number-in-Set : goal.returns-in_err-last_number-in-Set
returns-in_err-last_number-in-Set c =
    let is : choice (head c.args.words) ≡ Some Set = cc in
    let took = chosen c.args.words _ Set is c.skip.ensures in
    stop_as c.from_residual-in_err-last_number-in-Set.result _ (ap position_form_of (sym is)) c.from_residual-in_err-last_number-in-Set.ensures.1 (stops_on took c.in_err-last_number-in-Set.ensures)

pub returns-in_ok-last_number-in-Set : goal.returns-in_ok-last_number-in-Set
returns-in_ok-last_number-in-Set c =
    let is : choice (head c.args.words) ≡ Some Set = cc in
    let took = chosen c.args.words _ Set is c.skip.ensures in
    read_as (ap position_form_of (sym is)) (position_set c.in_ok-last_number-in-Set.field-0) a_position_set refl (on took c.in_ok-last_number-in-Set.ensures)

pub returns-in_err-end-in-Get : goal.returns-in_err-end-in-Get
returns-in_err-end-in-Get c =
    let is : choice (head c.args.words) ≡ Some Get = cc in
    let took = chosen c.args.words _ Get is c.skip.ensures in
    stop_as c.from_residual-in_err-end-in-Get.result _ (ap position_form_of (sym is)) c.from_residual-in_err-end-in-Get.ensures.1 (stops_on took c.in_err-end-in-Get.ensures)

pub returns-in_ok-end-in-Get : goal.returns-in_ok-end-in-Get
returns-in_ok-end-in-Get c =
    let is : choice (head c.args.words) ≡ Some Get = cc in
    let took = chosen c.args.words _ Get is c.skip.ensures in
    read_as (ap position_form_of (sym is)) position_get a_position_get refl (on took c.in_ok-end-in-Get.ensures)
