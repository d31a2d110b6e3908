-- Bytes appended to what stands already.
use Rattle.std.specs.Prelude.{◌≡◌, ℕ, List, ◌++◌, Result, MatchResult}

-- from s to t, the first of the bytes were appended
pub record Front (bs s t : List ℕ) : Type 0 where
  pub done : List ℕ
  pub left : List ℕ
  pub whole : bs ≡ done ++ left
  pub put : t ≡ s ++ done

-- all of the bytes, or where the answer is an error the first of them
abbrev pub Appends : {T E : Type 0} → List ℕ → List ℕ → Result T E → List ℕ → Type 0
Appends bs s r t = MatchResult r (λ _. t ≡ s ++ bs) (λ _. Front bs s t)
