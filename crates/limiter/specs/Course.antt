-- The courses of a position on a clock that does not go back, and what they promise.
use Rattle.std.specs.Prelude.{◌≡◌, ℕ, ◌+◌, ◌-◌, ◌/◌, ◌<◌, ◌≤◌, Bool, true}
use Rattle.limiter.specs.History.{counted}
use Rattle.limiter.specs.Standing.{Standing, fresh, grants, polled, placed, restarted}

-- a question at a reading, put to a position that stood at s and stands at t after its answer
pub record Polled (s : Standing) (reading : ℕ) (answer : Bool) (t : Standing) : Type 0 where
  pub answered : answer ≡ grants s reading
  pub after : t ≡ polled s reading

-- A position made for `start` went through these calls, no reading before an earlier one. Its latest reading, its yes answers and where it stands:
pub data Course (start : ℕ) : ℕ → ℕ → Standing → Type 0 where
  begin : {s : Standing} → s ≡ fresh start → Course start start 0 s
  poll : {last reading yeses : ℕ} {answer : Bool} {s t : Standing} → Course start last yeses s → last ≤ reading → Polled s reading answer t → Course start reading (counted answer yeses) t
  place : {last yeses pos : ℕ} {s t : Standing} → Course start last yeses s → t ≡ placed s pos → Course start last yeses t
  restart : {last reading yeses : ℕ} {s t : Standing} → Course start last yeses s → last ≤ reading → t ≡ restarted s reading → Course start reading yeses t

-- What the course before a question says of its answer.
pub record Paced (start last yeses reading : ℕ) (answer : Bool) (t : Standing) : Type 0 where
  -- the course goes on
  pub runs : Course start reading (counted answer yeses) t
  -- never more yes answers than a burst, and one for each whole millisecond since the start
  pub most : counted answer yeses ≤ 10 + (reading - start) / 1000000
  -- yes until the burst is used up,
  pub burst : yeses < 10 → answer ≡ true
  -- and again whenever a millisecond has passed
  pub served : last + 1000000 ≤ reading → answer ≡ true
