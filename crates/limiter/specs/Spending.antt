-- Capacity is counted in yes answers.
use Rattle.std.specs.Prelude.{ℕ, ◌+◌, ◌-◌, min, Bool, ◌||◌, nat_le, nat_lt}

-- a yes answer can be paid for: something is held, or a whole interval has passed
abbrev pub funded : ℕ → ℕ → ℕ → Bool
funded capacity elapsed interval = nat_lt 0 capacity || nat_le interval elapsed

-- what is held after a yes answer: what was held and earned, less that answer, and never more than a burst
abbrev pub spend : ℕ → ℕ → ℕ → ℕ
spend burst capacity earned = min burst ((capacity + earned) - 1)
