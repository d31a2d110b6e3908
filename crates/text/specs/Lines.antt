-- Lines, and the rows that several of them take.
use Rattle.std.specs.Prelude.{◌≡◌, ℕ, ◌+◌, ◌-◌, ◌^◌, min, cond, List, [], ◌∷◌, IfOk, Result, ◌==◌}
use Rattle.refusal.specs.Numbers.{code, beside}
use Rattle.refusal.specs.declared.Refusal.{Refusal}
use Rattle.text.specs.declared.line.LineType.{LineType}
use Rattle.text.specs.declared.line.LineType.TheVariants.{Text, Bar, Empty}
use Rattle.text.specs.Outcomes.{measured, measure_number, first_line}

abbrev pub bytes : LineType → List ℕ
bytes (Text text) = text.now
bytes (Bar text) = text.now
bytes Empty = []

-- the number by which the first line is refused that is refused, or 0
abbrev pub count_number : ℕ → List LineType → ℕ
count_number W [] = 0
count_number W (l ∷ ls) = cond (measure_number W (bytes l) == 0) (count_number W ls) (measure_number W (bytes l))

abbrev pub heights : ℕ → (ℕ → ℕ) → List LineType → ℕ
heights W u [] = 0
heights W u (l ∷ ls) = (measured W u (bytes l)).height + heights W u ls

pub record Counted (W : ℕ) (u : ℕ → ℕ) (ls : List LineType) (r : Result ℕ Refusal) : Type 0 where
  pub number : code r ≡ count_number W ls
  pub place : beside r ≡ first_line (count_number W ls)
  pub value : IfOk r (λ rows. rows ≡ min (2 ^ 64 - 1) (heights W u ls))
