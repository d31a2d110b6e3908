-- Commands as the program holds them, and what they say.
use Rattle.std.specs.Prelude.{◌≡◌, ℕ, List, [], drop, Option, Result, MatchResult}
use Rattle.std.specs.Borrow.{Bor}
use Rattle.replay.specs.declared.command.Rule as rules
use Rattle.replay.specs.declared.command.Fault.{Fault}
use Rattle.replay.specs.declared.command.Command.{Command}
use Rattle.replay.specs.declared.command.Command.TheVariants.{Measure, Admit, Limiter, LimiterAllow, Position, PositionAllow, PositionReset, PositionSet, PositionGet}
use Rattle.script.specs.Escapes.{Means}
use Rattle.replay.specs.Faults.{Stops, Faulty}
use Rattle.replay.specs.Forms.{Form, form, arguments}
use Rattle.replay.specs.Grammar.{Phrase, Spells}
use Rattle.replay.specs.Orders.{Order, measure, admit, limiter, limiter_allow, position, position_allow, position_reset, position_set, position_get, parts}

-- a command says one order, whose text is what its own text means
pub data Says : Command → Order → Type 0 where
  a_measure : {w : ℕ} {u : rules.Rule} {t : Bor (List ℕ)} {bs : List ℕ} → Means t.now bs → Says (Measure w u t) (measure w u bs)
  an_admit : {t : Bor (List ℕ)} {bs : List ℕ} → Means t.now bs → Says (Admit t) (admit bs)
  a_limiter : {r s : ℕ} → Says (Limiter r s) (limiter r s)
  a_limiter_allow : {n : ℕ} → Says (LimiterAllow n) (limiter_allow n)
  a_position : {n : ℕ} → Says (Position n) (position n)
  a_position_allow : {n : ℕ} → Says (PositionAllow n) (position_allow n)
  a_position_reset : {n : ℕ} → Says (PositionReset n) (position_reset n)
  a_position_set : {n : ℕ} → Says (PositionSet n) (position_set n)
  a_position_get : Says PositionGet position_get

-- the text of a command, as it stands in the line
abbrev pub written : Command → List ℕ
written (Measure w u t) = t.now
written (Admit t) = t.now
written (Limiter r s) = []
written (LimiterAllow n) = []
written (Position n) = []
written (PositionAllow n) = []
written (PositionReset n) = []
written (PositionSet n) = []
written PositionGet = []

-- what a command says whose text means bs
abbrev pub said : Command → List ℕ → Order
said (Measure w u t) bs = measure w u bs
said (Admit t) bs = admit bs
said (Limiter r s) bs = limiter r s
said (LimiterAllow n) bs = limiter_allow n
said (Position n) bs = position n
said (PositionAllow n) bs = position_allow n
said (PositionReset n) bs = position_reset n
said (PositionSet n) bs = position_set n
said PositionGet bs = position_get

-- the command that the line spells, and the only one
pub record Understood (line : List ℕ) (c : Command) : Type 0 where
  pub order : Order
  pub says : Says c order
  pub spelled : Spells line order
  pub alone : (o : Order) → Spells line o → o ≡ order

-- the line spells no order, and this is why
pub record Refused (line : List ℕ) (f : Fault) : Type 0 where
  pub because : Faulty line f
  pub nothing : (o : Order) → Spells line o → ⊥

-- what follows a first word was read as a command of the form
pub record Read (fm : Form) (rest : Option (List ℕ)) (c : Command) : Type 0 where
  pub order : Order
  pub says : Says c order
  pub form_is : form order ≡ fm
  pub phrase : Phrase (drop 1 (parts order)) rest

abbrev pub Reads : Form → Option (List ℕ) → Result Command Fault → Type 0
Reads fm rest r = MatchResult r (λ c. Read fm rest c) (λ f. Stops (arguments fm) rest f)
