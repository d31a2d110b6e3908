-- Numbers as a script writes them: decimal digits, leading zeros too, and no sign.
use Rattle.std.specs.Prelude.{◌≡◌, ℕ, ◌^◌, ◌<◌, List}
use Rattle.std.specs.Str.Parse.{IsNumeral, digits_value}

pub record Number (word : List ℕ) (n : ℕ) : Type 0 where
  pub digits : IsNumeral 10 word
  pub is : n ≡ digits_value 10 word
  pub fits : n < 2 ^ 64

-- the word is no number of 0 to 2 ^ 64 - 1
abbrev pub NoNumber : List ℕ → Type 0
NoNumber word = (n : ℕ) → Number word n → ⊥
