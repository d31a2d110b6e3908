-- What every history of a rate limiter keeps, and the laws that follow.
use Rattle.std.proofs.Common.{◌≡◌, ℕ, ◌+◌, ◌-◌, ◌*◌, ◌/◌, ◌<◌, ◌≤◌, Bool, true, List, ◌∷◌, ◌∙◌, add-mul, arith}
use Rattle.std.proofs.Math.Nat.{add-mul-div_right, mul-add-div_right}
use Rattle.std.proofs.lemmas.Bool.Decides.{nat_tests}
use Rattle.limiter.specs.Ration.{Ration, nanos, passed, grants}
use Rattle.limiter.specs.History.{Asked, counted, Run, begin, ask, latest, bound, Rationed}

record Kept (start : Ration) (readings : List ℕ) (yeses : ℕ) (r : Ration) : Type 0 where
  same : r.interval ≡ start.interval
  some : 0 < start.interval
  few : start.capacity ≤ 20
  onward : start.prev ≤ r.prev
  behind : r.prev ≤ latest start.prev readings
  floor : start.capacity ≤ r.capacity + yeses
  whole : r.prev ≡ start.prev + (r.prev - start.prev) / nanos r * nanos r
  exact : start.capacity + (r.prev - start.prev) / nanos r ≤ 20 → r.capacity + yeses ≡ start.capacity + (r.prev - start.prev) / nanos r
  ceiling : r.capacity + yeses ≤ start.capacity + (r.prev - start.prev) / nanos r

-- prev moves over whole intervals: counted from t0, these are added to those before
pub moved_on : (t0 prev now j : ℕ) → 0 < j → t0 ≤ prev → (prev + (now - prev) / j * j - t0) / j ≡ (prev - t0) / j + (now - prev) / j
moved_on t0 prev now j p onward = grind (arith, add-mul-div_right (prev - t0) ((now - prev) / j) p)

keeps : {start r s : Ration} {readings : List ℕ} {yeses reading : ℕ} {answer : Bool} → Kept start readings yeses r → Asked r reading answer s → Kept start (reading ∷ readings) (counted answer yeses) s
keeps {start} {r} {s} {readings} {yeses} {reading} {answer} k a =
    let on = moved_on start.prev r.prev reading (nanos r) (omega arith) k.onward in
    let split = add-mul ((r.prev - start.prev) / nanos r) (passed r reading) (nanos r) in
    grind (arith, nat_tests, on, split)

kept : {start r : Ration} {readings : List ℕ} {yeses : ℕ} → Run start readings yeses r → Kept start readings yeses r
kept (begin sound) = grind arith
kept (ask run a) = keeps (kept run) a

-- within a burst every yes that the bound allows is still held, or was earned by now
unlost : {start r : Ration} {readings : List ℕ} {yeses reading : ℕ} → Kept start readings yeses r → latest start.prev readings ≤ reading → bound start (reading ∷ readings) ≤ 20 → yeses < bound start (reading ∷ readings) → grants r reading ≡ true
unlost k steady most below = grind (arith, nat_tests, mul-add-div_right)

pub rationed : {r s : Ration} {reading : ℕ} {answer : Bool} → Asked r reading answer s → (start : Ration) (readings : List ℕ) (yeses : ℕ) → Run start readings yeses r → Rationed start readings yeses reading answer s
rationed a start readings yeses run =
    let k = kept run in
    let next = ask run a in
    let after = kept next in
    record {
      runs = next;
      most = grind arith;
      burst = λ steady few. grind (arith, nat_tests);
      exact = λ steady most below. a.answered ∙ unlost k steady most below;
      served = λ later. grind (arith, nat_tests);
    }
