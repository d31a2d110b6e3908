-- The words that a command begins with, and those that name a width rule.
use Rattle.std.specs.Prelude.{◌≡◌, ℕ, cond, List, [], ◌∷◌, map, Some, None, codes, Option, Result, MatchResult, ◌≢◌}
use Rattle.std.specs.Borrow.{Bor}
use Rattle.std.specs.List.{list_any}
use Rattle.std.specs.Option.{ok_or}
use Rattle.std.specs.Str.{bytes_eq}
use Rattle.replay.specs.declared.command.Fault.{Fault}
use Rattle.replay.specs.declared.command.Fault.TheVariants as faults
use Rattle.replay.specs.declared.command.Rule.{Rule}
use Rattle.replay.specs.declared.words.Verb.{Verb}
use Rattle.replay.specs.declared.words.Verb.TheVariants.{Measure, Admit, Limiter, Position}
use Rattle.replay.specs.declared.words.Choice.{Choice}
use Rattle.replay.specs.declared.words.Choice.TheVariants.{Allow, Reset, Set, Get}
use Rattle.replay.specs.Orders.{named}

-- what a table of words has for w
abbrev pub pick : {X : Type 0} → List ℕ → List (List ℕ × X) → Option X
pick w [] = None
pick w (row ∷ rows) = cond (bytes_eq w row.0) (Some row.1) (pick w rows)

-- the table that a slice holds
abbrev pub rows : {X : Type 0} → List (Bor (List ℕ) × X) → List (List ℕ × X)
rows table = map (λ row. (row.0.now, row.1)) table

abbrev pub verbs : List (List ℕ × Verb)
verbs = (codes "measure", Measure) ∷ (codes "admit", Admit) ∷ (codes "limiter", Limiter) ∷ (codes "position", Position) ∷ []

-- known, and not supported by this version
unfoldable pub later : List (List ℕ)
later =
    codes "terminal" ∷ codes "engine" ∷ codes "credit" ∷ codes "insert" ∷ codes "remove" ∷ codes "mark" ∷ codes "fill" ∷ codes "bar" ∷ codes "text" ∷ codes "empty" ∷ codes "done" ∷ codes "align" ∷ codes "cursor" ∷ codes "draw" ∷ codes "force" ∷ codes "println" ∷ codes "clear" ∷ codes "op" ∷ codes "state" ∷ codes "screen" ∷ []

-- the command that a word begins, or why it begins none
abbrev pub verb : List ℕ → Result Verb Fault
verb w = ok_or (pick w verbs) (cond (list_any (bytes_eq w) later) faults.Unsupported faults.Unknown)

abbrev pub choices : List (List ℕ × Choice)
choices = (codes "allow", Allow) ∷ (codes "reset", Reset) ∷ (codes "set", Set) ∷ (codes "get", Get) ∷ []

abbrev pub choice : List ℕ → Option Choice
choice w = pick w choices

-- the rule that the word names, or that it names none
abbrev pub ReadsRule : List ℕ → Result Rule Fault → Type 0
ReadsRule w r = MatchResult r (λ u. w ≡ named u) (λ f. (f ≡ faults.Rule) × ((u : Rule) → w ≢ named u))
