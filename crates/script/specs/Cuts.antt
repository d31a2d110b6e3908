-- A run of bytes cut at the first byte of one value: a script at its line ends, a line at its spaces.
use Rattle.std.specs.Prelude.{◌≡◌, ℕ, cond, List, [], ◌∷◌, ◌++◌, Some, None, Option, ◌==◌, ◌≢◌}
use Rattle.std.specs.List.{AllByRecursion}

-- what stands before the first `at`
abbrev pub before : ℕ → List ℕ → List ℕ
before at [] = []
before at (b ∷ bs) = cond (b == at) [] (b ∷ before at bs)

-- what stands behind it, if there is one
abbrev pub behind : ℕ → List ℕ → Option (List ℕ)
behind at [] = None
behind at (b ∷ bs) = cond (b == at) (Some bs) (behind at bs)

-- nothing, or the byte and the rest
abbrev pub led : ℕ → Option (List ℕ) → List ℕ
led at None = []
led at (Some rest) = at ∷ rest

-- the bytes are the front, which holds no `at`, and then the rest behind the first `at`
pub record Cut (at : ℕ) (bs front : List ℕ) (rest : Option (List ℕ)) : Type 0 where
  pub front_is : front ≡ before at bs
  pub rest_is : rest ≡ behind at bs
  pub whole : bs ≡ front ++ led at rest
  pub free : AllByRecursion (λ b. b ≢ at) front
