-- The grammar: which lines spell which order.
use Rattle.std.specs.Prelude.{◌≡◌, ℕ, ◌≤◌, List, [], ◌∷◌, Some, None, Option}
use Rattle.replay.specs.declared.command.Rule.{Rule}
use Rattle.script.specs.Cuts.{before, behind}
use Rattle.script.specs.Escapes.{Meant}
use Rattle.script.specs.Numbers.{Number}
use Rattle.replay.specs.Orders.{Order, Part, word, number, rate, rule, text, parts, named}

-- one word spells one part
pub data Spelled : Part → List ℕ → Type 0 where
  as_is : {x w : List ℕ} → w ≡ x → Spelled (word x) w
  as_number : {n : ℕ} {w : List ℕ} → Number w n → Spelled (number n) w
  as_rate : {n : ℕ} {w : List ℕ} → Number w n → n ≤ 255 → Spelled (rate n) w
  as_rule : {u : Rule} {w : List ℕ} → w ≡ named u → Spelled (rule u) w

-- the TEXT of what is left of a line; missing, it is empty
abbrev pub raw : Option (List ℕ) → List ℕ
raw None = []
raw (Some rest) = rest

-- what is left of a line spells the parts: a word each, with one space between two; a text takes all that is left
pub data Phrase : List Part → Option (List ℕ) → Type 0 where
  end : Phrase [] None
  tail : {bs : List ℕ} {rest : Option (List ℕ)} → Meant (raw rest) bs → Phrase (text bs ∷ []) rest
  next : {p : Part} {ps : List Part} {line : List ℕ} → Spelled p (before 32 line) → Phrase ps (behind 32 line) → Phrase (p ∷ ps) (Some line)

abbrev pub Spells : List ℕ → Order → Type 0
Spells line o = Phrase (parts o) (Some line)
