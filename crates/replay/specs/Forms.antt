-- Which command a line is meant to be, by its first words, and what is due in it.
use Rattle.std.specs.Prelude.{ℕ, List, [], ◌∷◌, Some, None, codes, Option, Result}
use Rattle.std.specs.Result.{result_map_both}
use Rattle.replay.specs.declared.command.Fault.{Fault}
use Rattle.replay.specs.declared.words.Verb.{Verb}
use Rattle.replay.specs.declared.words.Verb.TheVariants.{Measure, Admit, Limiter, Position}
use Rattle.replay.specs.declared.words.Choice.{Choice}
use Rattle.replay.specs.declared.words.Choice.TheVariants.{Allow, Reset, Set, Get}
use Rattle.script.specs.Cuts.{before, behind}
use Rattle.replay.specs.Orders.{Order, measure, admit, limiter, limiter_allow, position, position_allow, position_reset, position_set, position_get, Part, word, number, rate, rule, text}
use Rattle.replay.specs.Words.{verb, choice}

-- a part without its value
pub data Kind : Type 0 where
  a_word : List ℕ → Kind
  a_number : Kind
  a_rate : Kind
  a_rule : Kind
  a_text : Kind

abbrev pub kind : Part → Kind
kind (word w) = a_word w
kind (number n) = a_number
kind (rate n) = a_rate
kind (rule u) = a_rule
kind (text t) = a_text

abbrev pub kinds : List Part → List Kind
kinds [] = []
kinds (p ∷ ps) = kind p ∷ kinds ps

pub data Form : Type 0 where
  measure_form : Form
  admit_form : Form
  limiter_form : Form
  limiter_allow_form : Form
  position_form : Form
  position_allow_form : Form
  position_reset_form : Form
  position_set_form : Form
  position_get_form : Form

abbrev pub form : Order → Form
form (measure w u t) = measure_form
form (admit t) = admit_form
form (limiter r s) = limiter_form
form (limiter_allow n) = limiter_allow_form
form (position n) = position_form
form (position_allow n) = position_allow_form
form (position_reset n) = position_reset_form
form (position_set n) = position_set_form
form position_get = position_get_form

-- the first word of a command of this form
abbrev pub opening : Form → List ℕ
opening measure_form = codes "measure"
opening admit_form = codes "admit"
opening limiter_form = codes "limiter"
opening limiter_allow_form = codes "limiter"
opening position_form = codes "position"
opening position_allow_form = codes "position"
opening position_reset_form = codes "position"
opening position_set_form = codes "position"
opening position_get_form = codes "position"

-- what is due behind it
abbrev pub arguments : Form → List Kind
arguments measure_form = a_number ∷ a_rule ∷ a_text ∷ []
arguments admit_form = a_text ∷ []
arguments limiter_form = a_rate ∷ a_number ∷ []
arguments limiter_allow_form = a_word (codes "allow") ∷ a_number ∷ []
arguments position_form = a_number ∷ []
arguments position_allow_form = a_word (codes "allow") ∷ a_number ∷ []
arguments position_reset_form = a_word (codes "reset") ∷ a_number ∷ []
arguments position_set_form = a_word (codes "set") ∷ a_number ∷ []
arguments position_get_form = a_word (codes "get") ∷ []

-- the first word of what is left of a line; where nothing is left, no bytes
abbrev pub head : Option (List ℕ) → List ℕ
head None = []
head (Some rest) = before 32 rest

-- what follows that word
abbrev pub after : Option (List ℕ) → Option (List ℕ)
after None = None
after (Some rest) = behind 32 rest

abbrev pub limiter_form_of : Option Choice → Form
limiter_form_of (Some Allow) = limiter_allow_form
limiter_form_of (Some Reset) = limiter_form
limiter_form_of (Some Set) = limiter_form
limiter_form_of (Some Get) = limiter_form
limiter_form_of None = limiter_form

abbrev pub position_form_of : Option Choice → Form
position_form_of (Some Allow) = position_allow_form
position_form_of (Some Reset) = position_reset_form
position_form_of (Some Set) = position_set_form
position_form_of (Some Get) = position_get_form
position_form_of None = position_form

abbrev pub form_of : Verb → Option Choice → Form
form_of Measure c = measure_form
form_of Admit c = admit_form
form_of Limiter c = limiter_form_of c
form_of Position c = position_form_of c

-- the form that the first word of a line, and where that leaves a choice the second, asks for, or why there is none
abbrev pub due : List ℕ → Result Form Fault
due line = result_map_both (λ v. form_of v (choice (head (behind 32 line)))) (λ f. f) (verb (before 32 line))
