-- Colour sequences, and text that holds them, as relations on lists of codes. Bytes of a sequence are all below 128, so that there a code is its byte.
use Rattle.std.specs.Prelude.{◌≡◌, ℕ, ◌≤◌, Bool, true, List, [], ◌∷◌, ◌++◌, length, take}
use Rattle.escape.specs.Reader.{shown, parameter, intermediate}

abbrev pub Each : (ℕ → Bool) → List ℕ → Type 0
Each p [] = Unit {0}
Each p (x ∷ xs) = (p x ≡ true) × Each p xs

-- q is one colour sequence: 27, 91, any parameter bytes, any intermediate bytes, 109
pub record Sequence (q : List ℕ) : Type 0 where
  pub params : List ℕ
  pub inters : List ℕ
  pub params_are : Each parameter params
  pub inters_are : Each intermediate inters
  pub whole : q ≡ 27 ∷ 91 ∷ (params ++ (inters ++ 109 ∷ []))

-- the codes cs are text, and xs are its characters: those that stand outside colour sequences
pub data Clean : List ℕ → List ℕ → Type 0 where
  none : Clean [] []
  char : (c : ℕ) (cs xs : List ℕ) → shown c ≡ true → Clean cs xs → Clean (c ∷ cs) (c ∷ xs)
  colour : (q cs xs : List ℕ) → Sequence q → Clean cs xs → Clean (q ++ cs) xs

-- a colour sequence of n bytes stands at the head of s
pub record Heads (s : List ℕ) (n : ℕ) : Type 0 where
  pub within : n ≤ length s
  pub sequence : Sequence (take n s)
