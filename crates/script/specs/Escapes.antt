-- TEXT: how a line spells bytes, some of which cannot stand in it as they are.
use Rattle.std.specs.Prelude.{◌≡◌, ℕ, ◌+◌, ◌*◌, ◌<◌, List, [], ◌∷◌, ◌++◌, Result, MatchResult, ◌≢◌}
use Rattle.std.specs.Char.{digit_value}

-- a digit of base 16, in either case
abbrev pub Hex : ℕ → Type 0
Hex c = digit_value c < 16

-- the text begins with a spelling of the byte, and the rest follows
pub data Byte : List ℕ → ℕ → List ℕ → Type 0 where
  itself : {b : ℕ} {rest : List ℕ} → (b ≢ 92) → Byte (b ∷ rest) b rest
  backslash : {rest : List ℕ} → Byte (92 ∷ 92 ∷ rest) 92 rest
  newline : {rest : List ℕ} → Byte (92 ∷ 110 ∷ rest) 10 rest
  coded : {high low : ℕ} {rest : List ℕ} → Hex high → Hex low → Byte (92 ∷ 120 ∷ high ∷ low ∷ rest) (digit_value high * 16 + digit_value low) rest

-- the text is empty, or begins with a backslash that begins no escape
abbrev pub NoByte : List ℕ → Type 0
NoByte raw = (b : ℕ) (rest : List ℕ) → Byte raw b rest → ⊥

-- the front of a text spells the bytes, up to what is left
pub data Spelt : List ℕ → List ℕ → List ℕ → Type 0 where
  none : {left : List ℕ} → Spelt left [] left
  more : {raw rest left : List ℕ} {b : ℕ} {bs : List ℕ} → Byte raw b rest → Spelt rest bs left → Spelt raw (b ∷ bs) left

-- the whole text spells the bytes
abbrev pub Meant : List ℕ → List ℕ → Type 0
Meant raw bs = Spelt raw bs []

-- each backslash begins an escape, or is the second byte of one
abbrev pub WellFormed : List ℕ → Type 0
WellFormed raw = (bs : List ℕ) × Meant raw bs

-- what any text means: the bytes up to its end, or to the first backslash that begins no escape
pub record Means (raw bs : List ℕ) : Type 0 where
  pub left : List ℕ
  pub spelt : Spelt raw bs left
  pub ends : NoByte left

-- from s to t, bytes that the text means were added: all of them, or where the answer is an error the first of them
pub record Unescaped {T E : Type 0} (text s : List ℕ) (r : Result T E) (t : List ℕ) : Type 0 where
  pub bytes : List ℕ
  pub added : t ≡ s ++ bytes
  pub far : MatchResult r (λ _. Means text bytes) (λ _. (left : List ℕ) × Spelt text bytes left)
