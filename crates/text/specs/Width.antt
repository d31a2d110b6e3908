-- How many cells a code point takes.
use Rattle.std.specs.Prelude.{◌≡◌, ℕ, ◌≤◌, Bool, true, false, cond, ◌||◌, refl}
use Rattle.std.proofs.Common.{arith}
use Rattle.escape.specs.Reader.{within}

-- what every width rule has in common
pub record Rule (cells : ℕ → ℕ) : Type 0 where
  pub narrow : (c : ℕ) → cells c ≤ 2
  pub space : cells 32 ≡ 1

abbrev pub plain : ℕ → ℕ
plain c = 1

-- combining diacritical marks
abbrev pub combining : ℕ → Bool
combining c = within 0x300 0x36F c

-- Hangul Jamo initials, CJK unified ideographs, Hangul syllables, fullwidth forms
abbrev pub wide : ℕ → Bool
wide c = within 0x1100 0x115F c || (within 0x4E00 0x9FFF c || (within 0xAC00 0xD7A3 c || within 0xFF01 0xFF60 c))

abbrev pub house : ℕ → ℕ
house c = cond (combining c) 0 (cond (wide c) 2 1)

at_most : (b d : Bool) → cond b 0 (cond d 2 1) ≤ 2
at_most true d = omega arith
at_most false true = omega arith
at_most false false = omega arith

pub plain_rule : Rule plain
plain_rule = record { narrow = λ c. omega arith; space = refl }

pub house_rule : Rule house
house_rule = record { narrow = λ c. at_most (combining c) (wide c); space = refl }
