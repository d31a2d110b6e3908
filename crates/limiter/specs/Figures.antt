-- The rules in other words, and worked examples of both limiters.
use Rattle.std.specs.Prelude.{◌≡◌, ℕ, ◌+◌, ◌-◌, ◌*◌, ◌/◌, ◌%◌, ◌≤◌, Bool, true, false, List, [], ◌∷◌, ◌++◌, replicate}
use Rattle.limiter.specs.Ration as ration
use Rattle.limiter.specs.History.{latest, bound}
use Rattle.limiter.specs.Standing as standing

-- the answers to questions at these readings, the oldest first, where each is answered by `grants` and leads on by `asked`
abbrev pub answers : {S : Type 0} → (S → ℕ → Bool) → (S → ℕ → S) → S → List ℕ → List Bool
answers grants asked s [] = []
answers grants asked s (reading ∷ readings) = grants s reading ∷ answers grants asked (asked s reading) readings

pub record Figures : Type 0 where
  -- from making, at most 20 yes answers and one for each interval of 1000 / rate milliseconds
  pub bounded : (rate t0 : ℕ) (readings : List ℕ) → bound (ration.fresh rate t0) readings ≡ 20 + (latest t0 readings - t0) / (1000 / rate * 1000000)
  -- after a yes answer prev is the reading less what is left of an interval
  pub moved : (r : ration.Ration) (now : ℕ) → r.prev ≤ now → (ration.granted r now).prev ≡ now - (now - r.prev) % ration.nanos r
  pub moves : (s : standing.Standing) (now : ℕ) → (standing.granted s now).prev ≡ standing.elapsed s now - standing.since s now % 1000000
  -- a position's prev goes back with the clock
  pub back : (s : standing.Standing) (now : ℕ) → standing.elapsed s now ≤ s.prev → (standing.granted s now).prev ≡ standing.elapsed s now
  pub slowest : (ration.fresh 1 0).interval ≡ 1000
  pub fastest : (ration.fresh 255 0).interval ≡ 3
  -- made at one second for 20 a second: the burst, then nothing until 50 milliseconds have passed
  pub burst : answers ration.grants ration.asked (ration.fresh 20 1000000000) (replicate 20 1000000000 ++ (1000000000 ∷ 1049999999 ∷ 1050000000 ∷ [])) ≡ replicate 20 true ++ (false ∷ false ∷ true ∷ [])
  -- an hour's pause earns a burst and no more
  pub pause : answers ration.grants ration.asked (ration.fresh 20 0) (replicate 22 3600000000000) ≡ replicate 21 true ++ (false ∷ [])
  -- the 9 milliseconds left of a third interval are not lost
  pub remainder : ration.asked (ration.fresh 20 0) 109000000 ≡ record { interval = 50; capacity = 20; prev = 100000000 }
  -- a position made at one second: the burst, then one each millisecond
  pub reports : answers standing.grants standing.polled (standing.fresh 1000000000) (replicate 11 1000000000 ++ (1000999999 ∷ 1001000000 ∷ [])) ≡ replicate 10 true ++ (false ∷ false ∷ true ∷ [])
  -- before the start there is no report
  pub early : answers standing.grants standing.polled (standing.fresh 1000000000) (999999999 ∷ []) ≡ false ∷ []
