-- The pieces of a line: plain runs and colour sequences.
use Rattle.std.specs.Prelude.{◌≡◌, ℕ, ◌+◌, ◌-◌, ◌<◌, ◌≤◌, List, [], ◌∷◌, ◌++◌, length, take, drop, Option, IfSome, MatchOption}
use Rattle.std.specs.Borrow.{Bor}
use Rattle.escape.specs.Grammar.{Sequence, Heads}
use Rattle.escape.specs.declared.piece.Piece.{Piece}
use Rattle.escape.specs.declared.piece.Piece.TheVariants as pieces

pub data Part : Type 0 where
  plain : List ℕ → Part
  colour : List ℕ → Part

abbrev pub bytes : Part → List ℕ
bytes (plain run) = run
bytes (colour sequence) = sequence

abbrev pub view : Piece → Part
view (pieces.Plain run) = plain run.now
view (pieces.Colour sequence) = colour sequence.now

-- a colour sequence begins at the place k of the line
abbrev pub Opens : List ℕ → ℕ → Type 0
Opens line k = (n : ℕ) × Heads (drop k line) n

-- in a plain run no colour sequence begins, and one does where it ends before the line does
abbrev pub Kind : List ℕ → ℕ → ℕ → Part → Type 0
Kind line i j (plain run) = ((k : ℕ) → i ≤ k → k < j → Opens line k → ⊥) × (j < length line → Opens line j)
Kind line i j (colour sequence) = Sequence sequence

-- p is the piece of the line from the place i up to j
pub record Cut (line : List ℕ) (i j : ℕ) (p : Part) : Type 0 where
  pub part : bytes p ≡ take (j - i) (drop i line)
  pub some : i < j
  pub within : j ≤ length line
  pub kind : Kind line i j p

-- where a piece lies in memory
abbrev pub at : Piece → ℕ × ℕ
at (pieces.Plain run) = run.ref_ptr
at (pieces.Colour sequence) = sequence.ref_ptr

-- the piece lies in the memory of the line, i bytes on
abbrev pub LiesAt : Bor (List ℕ) → ℕ → Piece → Type 0
LiesAt line i p = ((at p).0 ≡ line.ref_ptr.0) × ((at p).1 ≡ line.ref_ptr.1 + i)

-- the pieces of the line that stand before the place i, one after the other
pub data Given (line : List ℕ) : List Part → ℕ → Type 0 where
  start : Given line [] 0
  next : (ps : List Part) (i j : ℕ) (p : Part) → Given line ps i → Cut line i j p → Given line (ps ++ p ∷ []) j

abbrev pub joined : List Part → List ℕ
joined [] = []
joined (p ∷ ps) = bytes p ++ joined ps

-- after a plain run comes no other
abbrev pub Follows : Part → List Part → Type 0
Follows (plain run) [] = Unit {0}
Follows (plain run) (plain other ∷ ps) = ⊥
Follows (plain run) (colour sequence ∷ ps) = Unit {0}
Follows (colour sequence) ps = Unit {0}

abbrev pub Sound : Part → Type 0
Sound (plain run) = 0 < length run
Sound (colour sequence) = (0 < length sequence) × Sequence sequence

abbrev pub AllSound : List Part → Type 0
AllSound [] = Unit {0}
AllSound (p ∷ ps) = Sound p × AllSound ps

abbrev pub Apart : List Part → Type 0
Apart [] = Unit {0}
Apart (p ∷ ps) = Follows p ps × Apart ps

-- joined in order they are the line; none is empty, and a colour piece is one sequence; no two plain runs are neighbours
pub record Divided (line : List ℕ) (ps : List Part) : Type 0 where
  pub whole : joined ps ≡ line
  pub sound : AllSound ps
  pub apart : Apart ps

-- a question for the next piece: r is the piece of the line at the place i, or None at its end, and the next is asked for at the place j
pub record NextPiece (line : Bor (List ℕ)) (i : ℕ) (r : Option Piece) (after : Bor (List ℕ)) (j : ℕ) : Type 0 where
  pub kept : after ≡ line
  pub cut : MatchOption r ((i ≡ length line.now) × (j ≡ i)) (λ p. Cut line.now i j (view p))
  pub place : IfSome r (λ p. LiesAt line i p)
  -- whatever pieces came before it, they and it stand before the place j, or are all pieces of the line
  pub all : (ps : List Part) → Given line.now ps i → MatchOption r (Divided line.now ps) (λ p. Given line.now (ps ++ view p ∷ []) j)
