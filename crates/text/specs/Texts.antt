-- Which text may be written, and what its characters are.
use Rattle.std.specs.Prelude.{◌≡◌, ℕ, Bool, true, ◌&&◌, List}
use Rattle.std.proofs.Math.Utf8.{encodes, scalars}
use Rattle.std.specs.Str.{chars, bytes_eq}
use Rattle.utf8.specs.Rfc.{Spells}
use Rattle.escape.specs.Grammar.{Clean}
use Rattle.escape.specs.Reading.{accepts, letters}
use Rattle.escape.specs.declared.reader.State.TheVariants.{Ground}

-- bs is admissible text with the characters xs: the UTF-8 of code points that are no controls, but for colour sequences, which hold no characters
pub record Text (bs xs : List ℕ) : Type 0 where
  pub codes : List ℕ
  pub spelled : Spells bs codes
  pub clean : Clean codes xs

-- ---- the same, computed
-- bs is what the scalar values encode that it decodes to
abbrev pub utf8 : List ℕ → Bool
utf8 bs = scalars (chars bs) && bytes_eq (encodes (chars bs)) bs

unfoldable pub admissible : List ℕ → Bool
admissible bs = utf8 bs && accepts Ground (chars bs)

-- the characters of admissible text
unfoldable pub characters : List ℕ → List ℕ
characters bs = letters Ground (chars bs)

-- what is computed is what is meant
pub record Decided (bs : List ℕ) : Type 0 where
  pub yes : admissible bs ≡ true → Text bs (characters bs)
  pub only : (xs : List ℕ) → Text bs xs → (admissible bs ≡ true) × (characters bs ≡ xs)
