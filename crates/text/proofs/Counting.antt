-- The rows of several lines, line by line.
use Rattle.std.proofs.Common.{◌≡◌, ℕ, ◌+◌, ◌-◌, ◌^◌, ◌≤◌, min, List, drop}
use Rattle.text.specs.declared.line.LineType.{LineType}
use Rattle.text.specs.Lines.{count_number, heights}

-- what is left of the lines answers as all of them do, after the rows so far
pub record Sofar (W : ℕ) (u : ℕ → ℕ) (ls : List LineType) (i rows : ℕ) : Type 0 where
  pub number : count_number W (drop i ls) ≡ count_number W ls
  pub total : min (2 ^ 64 - 1) (rows + heights W u (drop i ls)) ≡ min (2 ^ 64 - 1) (heights W u ls)
  pub small : rows ≤ 2 ^ 64 - 1
