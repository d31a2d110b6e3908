-- What a position and its limiter hold, and what each call makes of it. A reading is a clock's value in nanoseconds.
use Rattle.std.specs.Prelude.{ℕ, ◌+◌, ◌-◌, ◌*◌, ◌/◌, ◌≤◌, min, Bool, cond, ◌&&◌, nat_le}
use Rattle.limiter.specs.Spending.{funded, spend}

-- prev counts from start, which is a reading
pub record Standing : Type 0 where
  pub pos : ℕ
  pub capacity : ℕ
  pub prev : ℕ
  pub start : ℕ

-- a position: where it stands, and that it holds no more than a burst
pub record Placed : Type 0 where
  pub standing : Standing
  pub few : standing.capacity ≤ 10

abbrev pub fresh : ℕ → Standing
fresh start = record { pos = 0; capacity = 10; prev = 0; start = start }

-- from the start to a reading, and from prev to a reading: 0 where the reading lies before
abbrev pub elapsed : Standing → ℕ → ℕ
elapsed s now = now - s.start

abbrev pub since : Standing → ℕ → ℕ
since s now = elapsed s now - s.prev

-- how many whole milliseconds have passed since prev
abbrev pub passed : Standing → ℕ → ℕ
passed s now = since s now / 1000000

-- yes, unless the reading lies before the start, or nothing is held and no whole millisecond has passed
abbrev pub grants : Standing → ℕ → Bool
grants s now = nat_le s.start now && funded s.capacity (since s now) 1000000

-- a yes answer: each millisecond passed has earned one, and prev moves over these, or back to a reading before it
abbrev pub granted : Standing → ℕ → Standing
granted s now = record { pos = s.pos; capacity = spend 10 s.capacity (passed s now); prev = min s.prev (elapsed s now) + passed s now * 1000000; start = s.start }

-- a no changes nothing
abbrev pub polled : Standing → ℕ → Standing
polled s now = cond (grants s now) (granted s now) s

abbrev pub placed : Standing → ℕ → Standing
placed s pos = record { pos = pos; capacity = s.capacity; prev = s.prev; start = s.start }

-- at position 0, with nothing earned before the reading, and what was held still held
abbrev pub restarted : Standing → ℕ → Standing
restarted s now = record { pos = 0; capacity = s.capacity; prev = elapsed s now; start = s.start }
