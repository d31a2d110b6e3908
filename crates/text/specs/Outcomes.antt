-- What admission and measure answer, for every input.
use Rattle.std.specs.Prelude.{◌≡◌, ℕ, ◌≤◌, max, cond, List, length, IfOk, Some, None, Option, Result, nat_le}
use Rattle.refusal.specs.Numbers.{code, beside}
use Rattle.refusal.specs.declared.Refusal.{Refusal}
use Rattle.refusal.specs.declared.Refusal.TheVariants.{Size, NotAdmissible, TooLong}
use Rattle.std.specs.Result.{result_err}
use Rattle.escape.specs.Reader.{within}
use Rattle.text.specs.declared.metrics.Metrics.{Metrics}
use Rattle.text.specs.Texts.{Text, admissible, characters, Decided}
use Rattle.text.specs.Rows.{Measures, metrics, start}

-- what is measured of a line, as a function
unfoldable pub measured : ℕ → (ℕ → ℕ) → List ℕ → Metrics
measured W u bs = metrics W u start (characters bs)

abbrev pub admission_number : List ℕ → ℕ
admission_number bs = cond (admissible bs) 0 6

abbrev pub measure_number : ℕ → List ℕ → ℕ
measure_number W bs = cond (within 2 512 W) (cond (nat_le (length bs) 128) (admission_number bs) 7) 1

-- the refusal itself
abbrev pub admission_refusal : List ℕ → Option Refusal
admission_refusal bs = cond (admissible bs) None (Some (NotAdmissible 0))

abbrev pub measure_refusal : ℕ → List ℕ → Option Refusal
measure_refusal W bs = cond (within 2 512 W) (cond (nat_le (length bs) 128) (admission_refusal bs) (Some (TooLong 0))) (Some Size)

-- 6 and 7 name the line, which is the only one here
abbrev pub first_line : ℕ → Option ℕ
first_line n = cond (within 6 7 n) (Some 0) None

pub record Admitted (bs : List ℕ) (r : Result (Unit {0}) Refusal) : Type 0 where
  pub number : code r ≡ admission_number bs
  pub place : beside r ≡ first_line (admission_number bs)
  pub refused : result_err r ≡ admission_refusal bs
  pub decided : Decided bs

-- the measure of the line bs, which has at most as many rows as bytes, or one
pub record Line (W : ℕ) (u : ℕ → ℕ) (bs : List ℕ) (m : Metrics) : Type 0 where
  pub text : Text bs (characters bs)
  pub is : m ≡ measured W u bs
  pub measures : Measures W u (characters bs) m
  pub column : m.last_line_width ≤ W
  pub rows : 1 ≤ m.height
  pub most : m.height ≤ max 1 (length bs)

pub record Measured (W : ℕ) (u : ℕ → ℕ) (bs : List ℕ) (r : Result Metrics Refusal) : Type 0 where
  pub number : code r ≡ measure_number W bs
  pub place : beside r ≡ first_line (measure_number W bs)
  pub refused : result_err r ≡ measure_refusal W bs
  pub value : IfOk r (Line W u bs)
