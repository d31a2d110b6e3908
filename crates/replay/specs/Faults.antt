-- The faults of a line: the first thing from the left that is not as it is due.
use Rattle.std.specs.Prelude.{◌≡◌, ℕ, ◌<◌, List, [], ◌∷◌, Some, None, Ok, Err, Option, ◌≢◌}
use Rattle.replay.specs.declared.command.Fault.{Fault}
use Rattle.replay.specs.declared.command.Fault.TheVariants.{Words, Number, Rate, Rule, Escape}
use Rattle.replay.specs.declared.command.Rule as rules
use Rattle.script.specs.Cuts.{before, behind}
use Rattle.script.specs.Escapes.{WellFormed}
use Rattle.replay.specs.Forms.{Kind, a_number, a_rate, a_rule, a_text, kind, Form, arguments, due}
use Rattle.replay.specs.Grammar.{Spelled, raw}
use Rattle.script.specs.Numbers.{NoNumber, Number as IsNumber}
use Rattle.replay.specs.Orders.{Part, named}

-- a word is not of the kind that is due
pub data Wrong : Kind → List ℕ → Fault → Type 0 where
  no_number : {w : List ℕ} → NoNumber w → Wrong a_number w Number
  no_rate : {w : List ℕ} → NoNumber w → Wrong a_rate w Number
  above : {w : List ℕ} {n : ℕ} → IsNumber w n → 255 < n → Wrong a_rate w Rate
  no_rule : {w : List ℕ} → ((u : rules.Rule) → w ≢ named u) → Wrong a_rule w Rule

-- what is left of a line fails at the kinds that are due
pub data Stops : List Kind → Option (List ℕ) → Fault → Type 0 where
  missing : {k : Kind} {ks : List Kind} → (k ≢ a_text) → Stops (k ∷ ks) None Words
  surplus : {line : List ℕ} → Stops [] (Some line) Words
  wrong : {k : Kind} {ks : List Kind} {line : List ℕ} {f : Fault} → Wrong k (before 32 line) f → Stops (k ∷ ks) (Some line) f
  further : {p : Part} {ks : List Kind} {line : List ℕ} {f : Fault} → Spelled p (before 32 line) → Stops ks (behind 32 line) f → Stops (kind p ∷ ks) (Some line) f
  escape : {rest : Option (List ℕ)} → (WellFormed (raw rest) → ⊥) → Stops (a_text ∷ []) rest Escape

-- why a line is no command
pub data Faulty : List ℕ → Fault → Type 0 where
  no_command : {line : List ℕ} {f : Fault} → due line ≡ Err f → Faulty line f
  argument : {line : List ℕ} {fm : Form} {f : Fault} → due line ≡ Ok fm → Stops (arguments fm) (behind 32 line) f → Faulty line f
