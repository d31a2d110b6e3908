-- UTF-8 by RFC 3629: a character is one to four octets, by the table of its section 3.
use Rattle.std.specs.Prelude.{◌≡◌, ℕ, ◌+◌, ◌/◌, ◌%◌, ◌≤◌, Bool, true, cond, ◌&&◌, ◌||◌, List, [], ◌∷◌, ◌++◌, nat_le, nat_lt}
use Rattle.std.proofs.Math.Utf8.{encode, scalar}

-- the last six bits of n behind the bits 10
abbrev pub tail : ℕ → ℕ
tail n = 0x80 + n % 64

--     U+0000 to U+007F          0xxxxxxx
--     U+0080 to U+07FF          110xxxxx 10xxxxxx
--     U+0800 to U+FFFF          1110xxxx 10xxxxxx 10xxxxxx
--     U+10000 to U+10FFFF       11110xxx 10xxxxxx 10xxxxxx 10xxxxxx
-- Each range has one form, so that no character has a longer one.
abbrev pub octets : ℕ → List ℕ
octets c = cond (nat_lt c 0x80) (c ∷ [])
    (cond (nat_lt c 0x800) ((0xC0 + c / 64) ∷ tail c ∷ [])
    (cond (nat_lt c 0x10000) ((0xE0 + c / 4096) ∷ tail (c / 64) ∷ tail c ∷ [])
    ((0xF0 + c / 262144) ∷ tail (c / 4096) ∷ tail (c / 64) ∷ tail c ∷ [])))

-- a code point that may be encoded: at most U+10FFFF, and no surrogate (U+D800 to U+DFFF)
abbrev pub scalar_value : ℕ → Bool
scalar_value c = nat_le c 0xD7FF || (nat_le 0xE000 c && nat_le c 0x10FFFF)

-- the octets of the scalar value c stand at the head of bs, and rest follows them
pub record Char (bs : List ℕ) (c : ℕ) (rest : List ℕ) : Type 0 where
  pub valid : scalar_value c ≡ true
  pub split : bs ≡ octets c ++ rest

-- the octets of no scalar value stand at the head of bs
abbrev pub NoChar : List ℕ → Type 0
NoChar bs = (c : ℕ) (rest : List ℕ) → Char bs c rest → ⊥

-- bs is the UTF-8 of the code points cs, one after the other
pub data Spells : List ℕ → List ℕ → Type 0 where
  none : Spells [] []
  char : (bs rest cs : List ℕ) (c : ℕ) → Char bs c rest → Spells rest cs → Spells bs (c ∷ cs)

-- this is the UTF-8 of the standard library
pub record AsStd (c : ℕ) : Type 0 where
  pub octets_are : octets c ≡ encode c
  pub scalars_are : scalar_value c ≡ scalar c

-- b is an octet that follows a lead octet
abbrev pub Tail : ℕ → Type 0
Tail b = (0x80 ≤ b) × (b ≤ 0xBF)
