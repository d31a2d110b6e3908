-- Worked examples of every layer.
use Rattle.std.specs.Prelude.{◌≡◌, ℕ, List, [], ◌∷◌, ◌++◌, replicate, codes}
use Rattle.text.specs.Width.{plain, house}
use Rattle.text.specs.Outcomes.{measured, measure_number, admission_number}
use Rattle.limiter.specs.Figures as limiter

-- the line is measured, and takes so many rows, the last of so many cells
pub record Takes (W : ℕ) (u : ℕ → ℕ) (line : List ℕ) (rows column : ℕ) : Type 0 where
  pub accepted : measure_number W line ≡ 0
  pub is : measured W u line ≡ record { height = rows; last_line_width = column }

pub record Figures : Type 0 where
  -- ten letters fill a row of ten cells, and one more wraps
  pub ten : Takes 10 plain (codes "abcdefghij") 1 10
  pub eleven : Takes 10 plain (codes "abcdefghijk") 2 1
  pub empty : Takes 10 plain [] 1 0
  -- a colour sequence takes no cell
  pub coloured : Takes 10 plain (27 ∷ 91 ∷ 51 ∷ 49 ∷ 109 ∷ codes "ab") 1 2
  -- U+4E00 takes two cells, of which one is left after nine letters
  pub wide : Takes 10 house (codes "abcdefghi" ++ 0xE4 ∷ 0xB8 ∷ 0x80 ∷ []) 2 2
  -- 128 bytes pass and 129 do not; neither does a width of 1, whatever the line
  pub longest : Takes 10 plain (replicate 128 97) 13 8
  pub too_long : measure_number 10 (replicate 129 97) ≡ 7
  pub narrowest : measure_number 2 [] ≡ 0
  pub too_narrow : measure_number 1 (replicate 129 7) ≡ 1
  -- a bell, and the first byte of a character alone
  pub bell : admission_number (codes "ab" ++ 7 ∷ []) ≡ 6
  pub cut_short : admission_number (0xE4 ∷ []) ≡ 6
  -- those of the limiters, among them: rate 255 has an interval of 3 ms; of rate 20, a burst of twenty and then none until 50 ms have passed
  pub limiters : limiter.Figures
