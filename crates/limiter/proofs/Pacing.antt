-- What every course of a position keeps on a clock that does not go back, and the laws that follow.
use Rattle.std.proofs.Common.{◌≡◌, ℕ, ◌+◌, ◌-◌, ◌/◌, ◌≤◌, Bool, arith}
use Rattle.std.proofs.lemmas.Bool.Decides.{nat_tests}
use Rattle.limiter.specs.Standing.{Standing}
use Rattle.limiter.specs.Course.{Polled, Course, begin, poll, place, restart, Paced}

record Kept (start last yeses : ℕ) (s : Standing) : Type 0 where
  same : s.start ≡ start
  onward : start ≤ last
  behind : s.prev ≤ last - start
  floor : 10 ≤ s.capacity + yeses
  ceiling : s.capacity + yeses ≤ 10 + s.prev / 1000000

kept : {start last yeses : ℕ} {s : Standing} → Course start last yeses s → Kept start last yeses s
kept (begin e) = grind arith
kept (poll course later p) = let k = kept course in grind (arith, nat_tests)
kept (place course e) = let k = kept course in grind arith
kept (restart course later e) = let k = kept course in grind arith

pub paced : {s t : Standing} {reading : ℕ} {answer : Bool} → Polled s reading answer t → (start last yeses : ℕ) → last ≤ reading → Course start last yeses s → Paced start last yeses reading answer t
paced p start last yeses later course =
    let k = kept course in
    let next = poll course later p in
    let after = kept next in
    grind (arith, nat_tests)
