-- What each command answers, and what stands after it.
use Rattle.std.specs.Prelude.{ℕ, cond, Some, None, Option, ◌==◌}
use Rattle.std.specs.Option.{option_map}
use Rattle.text.specs.declared.metrics.Metrics.{Metrics}
use Rattle.text.specs.Width.{plain, house}
use Rattle.refusal.specs.declared.Refusal.{Refusal}
use Rattle.refusal.specs.declared.Refusal.TheVariants.{Rate}
use Rattle.refusal.specs.Numbers.{number}
use Rattle.text.specs.Outcomes.{admission_refusal, measure_refusal, measured}
use Rattle.limiter.specs.Ration as rations
use Rattle.limiter.specs.Standing as standings
use Rattle.limiter.specs.History.{Limited}
use Rattle.trace.specs.declared.answer.Answer.{Answer}
use Rattle.trace.specs.declared.answer.Answer.TheVariants as answers
use Rattle.trace.specs.Traces.{yes_or_no}
use Rattle.replay.specs.declared.command.Rule.{Rule}
use Rattle.replay.specs.declared.command.Rule.TheVariants as rules
use Rattle.replay.specs.Orders.{Order, measure, admit, limiter, limiter_allow, position, position_allow, position_reset, position_set, position_get}

abbrev pub cells : Rule → ℕ → ℕ
cells rules.Plain = plain
cells rules.House = house

-- the two limiters, if they were made
pub record State : Type 0 where
  pub limiter : Option rations.Ration
  pub position : Option standings.Standing

-- a rack: the two limiters themselves, if they were made
pub record Held : Type 0 where
  pub limiter : Option Limited
  pub position : Option standings.Placed

abbrev pub state : Held → State
state r = record { limiter = option_map (λ l. l.ration) r.limiter; position = option_map (λ p. p.standing) r.position }

abbrev pub nothing : State
nothing = record { limiter = None; position = None }

-- what a call answers that is declined by this refusal, or else done: a refusal is told by its number alone
abbrev pub outcome : Option Refusal → Answer → Answer
outcome None a = a
outcome (Some e) a = answers.Refused (number e) None

abbrev pub metrics_answer : Metrics → Answer
metrics_answer m = answers.Metrics m.height m.last_line_width

abbrev pub limiter_refusal : ℕ → Option Refusal
limiter_refusal rate = cond (rate == 0) (Some Rate) None

-- None where the command needs a limiter that was not made
abbrev pub answer : State → Order → Option Answer
answer s (measure w u t) = Some (outcome (measure_refusal w t) (metrics_answer (measured w (cells u) t)))
answer s (admit t) = Some (outcome (admission_refusal t) answers.Ok)
answer s (limiter r t0) = Some (outcome (limiter_refusal r) answers.Ok)
answer s (limiter_allow n) = option_map (λ l. yes_or_no (rations.grants l n)) s.limiter
answer s (position n) = Some answers.Ok
answer s (position_allow n) = option_map (λ p. yes_or_no (standings.grants p n)) s.position
answer s (position_reset n) = option_map (λ p. answers.Ok) s.position
answer s (position_set n) = option_map (λ p. answers.Ok) s.position
answer s position_get = option_map (λ p. answers.Position p.pos) s.position

abbrev pub with_limiter : Option rations.Ration → State → State
with_limiter l s = record { limiter = l; position = s.position }

abbrev pub with_position : Option standings.Standing → State → State
with_position p s = record { limiter = s.limiter; position = p }

abbrev pub after : State → Order → State
after s (measure w u t) = s
after s (admit t) = s
after s (limiter r t0) = cond (r == 0) s (with_limiter (Some (rations.fresh r t0)) s)
after s (limiter_allow n) = with_limiter (option_map (λ l. rations.asked l n) s.limiter) s
after s (position n) = with_position (Some (standings.fresh n)) s
after s (position_allow n) = with_position (option_map (λ p. standings.polled p n) s.position) s
after s (position_reset n) = with_position (option_map (λ p. standings.restarted p n) s.position) s
after s (position_set n) = with_position (option_map (λ p. standings.placed p n) s.position) s
after s position_get = s
