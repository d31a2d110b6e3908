-- What an operation of a terminal answers, what every terminal owes, and operations done in turn. Assumes nothing.
use Rattle.std.specs.Prelude.{◌≡◌, ℕ, ◌-◌, ◌<◌, Bool, true, cond, List, Some, None, Option, Result, ◌==◌, nat_le}
use Rattle.std.specs.List.{FoldsTo}
use Rattle.std.specs.Option.{option_map, option_map_or}
use Rattle.refusal.specs.declared.Refusal.{Refusal}
use Rattle.refusal.specs.Numbers.{code, beside}
use Rattle.terminal.specs.Screen.{Screen, Sound}
use Rattle.terminal.specs.Operations.{Op, fine, cost, effect}

-- ---- credit: a number of bytes, or None for unlimited
abbrev pub covers : Option ℕ → ℕ → Bool
covers credit n = option_map_or (λ k. nat_le n k) credit true

abbrev pub paid : Option ℕ → ℕ → Option ℕ
paid credit n = option_map (λ k. k - n) credit

-- the number of an operation's refusal, 0 for none
abbrev pub verdict : Op → Option ℕ → ℕ
verdict o credit = cond (fine o) (cond (covers credit (cost o)) 0 9) 6

-- what stands beside the number: an operation is the first of its call, and its text the first line
abbrev pub first_of : ℕ → Option ℕ
first_of n = cond (n == 0) None (Some 0)

-- the operation o was answered by r, and took the terminal s to t
pub record Answered {T A : Type 0} (funds : T → Option ℕ) (steps : Op → T → T → Type 0) (o : Op) (s : T) (r : Result A Refusal) (t : T) : Type 0 where
  pub number : code r ≡ verdict o (funds s)
  pub place : beside r ≡ first_of (verdict o (funds s))
  pub done : verdict o (funds s) ≡ 0 → steps o s t
  pub kept : 0 < verdict o (funds s) → t ≡ s

-- what every implementation owes: its screen is sound, a step has the effect of its operation, and costs its bytes
pub record TermLaws {T : Type 0} (meaning : T → Screen) (funds : T → Option ℕ) (steps : Op → T → T → Type 0) : Type 0 where
  pub sound : (s : T) → Sound (meaning s)
  pub effects : (o : Op) (s t : T) → steps o s t → meaning t ≡ effect o (meaning s)
  pub costs : (o : Op) (s t : T) → steps o s t → funds t ≡ paid (funds s) (cost o)

-- ---- operations in turn
abbrev pub Follows : {T : Type 0} → (Op → T → T → Type 0) → List Op → T → T → Type 0
Follows steps os s t = FoldsTo (λ m o n. steps o m n) s os t
