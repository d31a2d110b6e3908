-- A script is lines, each ended by the byte 10; the last need not be.
use Rattle.std.specs.Prelude.{◌≡◌, ℕ, ◌<◌, ◌⊎◌, List, [], ◌∷◌, ◌++◌, length, ◌≢◌, slice_index}
use Rattle.std.specs.List.{AllByRecursion}

-- the script begins with the line, and the rest follows its end
pub record Line (script line rest : List ℕ) : Type 0 where
  pub some : 0 < length script
  pub free : AllByRecursion (λ b. b ≢ 10) line
  pub whole : (script ≡ line ++ 10 ∷ rest) ⊎ ((script ≡ line) × (rest ≡ []))

-- nothing but spaces
abbrev pub Blank : List ℕ → Type 0
Blank line = (k : ℕ) → k < length line → slice_index line k ≡ 32

-- a blank line, or one that begins with `#`
abbrev pub Skipped : List ℕ → Type 0
Skipped line = (slice_index line 0 ≡ 35) ⊎ Blank line
