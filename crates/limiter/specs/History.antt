-- The histories of a rate limiter, and what they promise.
use Rattle.std.specs.Prelude.{◌≡◌, ℕ, ◌+◌, ◌-◌, ◌/◌, ◌<◌, ◌≤◌, max, Bool, true, cond, List, [], ◌∷◌}
use Rattle.limiter.specs.Ration.{Ration, nanos, grants, asked}

-- a question at a reading, put to a limiter that stood at r and stands at s after its answer
pub record Asked (r : Ration) (reading : ℕ) (answer : Bool) (s : Ration) : Type 0 where
  pub answered : answer ≡ grants r reading
  pub after : s ≡ asked r reading

-- where a limiter may stand
pub record Sound (r : Ration) : Type 0 where
  pub some : 0 < r.interval
  pub most : r.interval ≤ 1000
  pub few : r.capacity ≤ 20

-- a limiter: where it stands, and that it may stand there
pub record Limited : Type 0 where
  pub ration : Ration
  pub sound : Sound ration

abbrev pub counted : Bool → ℕ → ℕ
counted answer yeses = cond answer (yeses + 1) yeses

-- From `start` a limiter was asked at these readings, the newest first, in any order of their values; it said yes so often and stands at the last index.
pub data Run (start : Ration) : List ℕ → ℕ → Ration → Type 0 where
  begin : Sound start → Run start [] 0 start
  ask : {readings : List ℕ} {yeses reading : ℕ} {answer : Bool} {r s : Ration} → Run start readings yeses r → Asked r reading answer s → Run start (reading ∷ readings) (counted answer yeses) s

-- the greatest of t0 and the readings
abbrev pub latest : ℕ → List ℕ → ℕ
latest t0 [] = t0
latest t0 (reading ∷ readings) = max reading (latest t0 readings)

-- what was held at the start, and one for each whole interval up to the latest reading
abbrev pub bound : Ration → List ℕ → ℕ
bound start readings = start.capacity + (latest start.prev readings - start.prev) / nanos start

-- What the history before a question says of its answer.
pub record Rationed (start : Ration) (readings : List ℕ) (yeses reading : ℕ) (answer : Bool) (s : Ration) : Type 0 where
  -- the history goes on
  pub runs : Run start (reading ∷ readings) (counted answer yeses) s
  -- never more yes answers than the bound
  pub most : counted answer yeses ≤ bound start (reading ∷ readings)
  -- a clock that has not gone back has its yes until what was held at the start is used up,
  pub burst : latest start.prev readings ≤ reading → yeses < start.capacity → answer ≡ true
  -- and while no more than a burst was held and earned in all, every yes that the bound allows: no part of an interval is lost;
  pub exact : latest start.prev readings ≤ reading → bound start (reading ∷ readings) ≤ 20 → yeses < bound start (reading ∷ readings) → answer ≡ true
  -- yes again whenever an interval has passed since all earlier readings
  pub served : latest start.prev readings + nanos start ≤ reading → answer ≡ true
