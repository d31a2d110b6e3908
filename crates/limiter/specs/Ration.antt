-- What a rate limiter holds, and what a question makes of it. A reading is a clock's value in nanoseconds.
use Rattle.std.specs.Prelude.{ℕ, ◌+◌, ◌-◌, ◌*◌, ◌/◌, Bool, cond, ◌&&◌, nat_le}
use Rattle.limiter.specs.Spending.{funded, spend}

pub record Ration : Type 0 where
  pub interval : ℕ
  pub capacity : ℕ
  pub prev : ℕ

-- made for `rate` yes answers a second, at the reading t0: the interval is in whole milliseconds
abbrev pub fresh : ℕ → ℕ → Ration
fresh rate t0 = record { interval = 1000 / rate; capacity = 20; prev = t0 }

-- an interval in nanoseconds
abbrev pub nanos : Ration → ℕ
nanos r = r.interval * 1000000

-- how many whole intervals have passed since prev
abbrev pub passed : Ration → ℕ → ℕ
passed r now = (now - r.prev) / nanos r

-- yes, unless the reading lies before prev, or nothing is held and no whole interval has passed
abbrev pub grants : Ration → ℕ → Bool
grants r now = nat_le r.prev now && funded r.capacity (now - r.prev) (nanos r)

-- a yes answer: each interval passed has earned one, and prev moves over these intervals
abbrev pub granted : Ration → ℕ → Ration
granted r now = record { interval = r.interval; capacity = spend 20 r.capacity (passed r now); prev = r.prev + passed r now * nanos r }

-- a no changes nothing
abbrev pub asked : Ration → ℕ → Ration
asked r now = cond (grants r now) (granted r now) r
