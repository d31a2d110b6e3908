-- One word taken from what is left of a line.
use Rattle.std.specs.Prelude.{◌≡◌, ℕ, List, Some, None, Option, Result, MatchResult, ◌≢◌}
use Rattle.std.specs.Borrow.{Bor}
use Rattle.replay.specs.declared.command.Fault.{Fault}
use Rattle.replay.specs.declared.command.Fault.TheVariants.{Words}
use Rattle.script.specs.Cuts.{before, behind, Cut}
use Rattle.replay.specs.Faults.{Wrong}
use Rattle.replay.specs.Forms.{Kind, a_text}
use Rattle.replay.specs.Grammar.{Spelled}
use Rattle.replay.specs.Orders.{Part}

-- the first word spells the part, and left is what follows it
pub record Took (p : Part) (rest left : Option (List ℕ)) : Type 0 where
  pub line : List ℕ
  pub from : rest ≡ Some line
  pub spelled : Spelled p (before 32 line)
  pub to : left ≡ behind 32 line

-- there is no word, or it is not of the kind
pub data Halts : Kind → Option (List ℕ) → Fault → Type 0 where
  no_word : {k : Kind} → (k ≢ a_text) → Halts k None Words
  wrong_word : {k : Kind} {line : List ℕ} {f : Fault} → Wrong k (before 32 line) f → Halts k (Some line) f

-- the first word was cut off what is left, or nothing was left
abbrev pub TakesWord : Option (List ℕ) → Result (Bor (List ℕ)) Fault → Option (List ℕ) → Type 0
TakesWord rest r left = MatchResult r (λ w. (line : List ℕ) × (rest ≡ Some line) × Cut 32 line w.now left) (λ f. (f ≡ Words) × (rest ≡ None) × (left ≡ rest))
