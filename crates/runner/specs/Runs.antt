-- Running a script: what is answered line by line, and the trace of it.
use Rattle.std.specs.Prelude.{◌≡◌, ℕ, suc, ◌+◌, List, [], ◌++◌, Some, None}
use Rattle.trace.specs.declared.answer.Answer.{Answer}
use Rattle.trace.specs.declared.answer.Answer.TheVariants as answers
use Rattle.replay.specs.declared.command.Fault.{Fault}
use Rattle.replay.specs.Commands.{Refused}
use Rattle.replay.specs.Grammar.{Spells}
use Rattle.replay.specs.Orders.{Order}
use Rattle.script.specs.Scripts.{Line, Skipped}
use Rattle.trace.specs.Traces.{traced}
use Rattle.runner.specs.declared.summary.Summary.{Summary}
use Rattle.runner.specs.Answers.{State, answer, after}

-- the line was answered by a, from the state s to t
pub record Played (s : State) (line : List ℕ) (a : Answer) (t : State) : Type 0 where
  pub order : Order
  pub spelled : Spells line order
  pub answered : answer s order ≡ Some a
  pub left : t ≡ after s order

-- the line asks for a limiter that was not made
pub record Missing (s : State) (line : List ℕ) : Type 0 where
  pub order : Order
  pub spelled : Spells line order
  pub unanswered : answer s order ≡ None

-- how often was answered, and how often by a refusal
abbrev pub none : Summary
none = record { commands = 0; refused = 0 }

abbrev pub refusals : Answer → ℕ
refusals answers.Ok = 0
refusals (answers.Refused n at) = 1
refusals (answers.Metrics r c) = 0
refusals answers.Yes = 0
refusals answers.No = 0
refusals (answers.Position n) = 0

-- one answer more
abbrev pub counted : Answer → Summary → Summary
counted a k = record { commands = suc k.commands; refused = refusals a + k.refused }

-- how a run ends: with its script, or at a line, counted from 1
pub data Ending : Type 0 where
  complete : Ending
  faulty : ℕ → Fault → Ending
  missing : ℕ → Ending

abbrev pub below : Ending → Ending
below complete = complete
below (faulty n f) = faulty (suc n) f
below (missing n) = missing (suc n)

-- from the state s the script gives this trace and these counts, and ends so
pub data Replayed : State → List ℕ → List ℕ → Summary → Ending → Type 0 where
  ended : (s : State) → Replayed s [] [] none complete
  skip : {s : State} {script line rest trace : List ℕ} {k : Summary} {e : Ending} → Line script line rest → Skipped line → Replayed s rest trace k e → Replayed s script trace k (below e)
  play : {s t : State} {script line rest trace : List ℕ} {a : Answer} {k : Summary} {e : Ending} → Line script line rest → (Skipped line → ⊥) → Played s line a t → Replayed t rest trace k e
      → Replayed s script (traced line a ++ trace) (counted a k) (below e)
  refuse : {s : State} {script line rest : List ℕ} {f : Fault} → Line script line rest → (Skipped line → ⊥) → Refused line f → Replayed s script [] none (faulty 1 f)
  lack : {s : State} {script line rest : List ℕ} → Line script line rest → (Skipped line → ⊥) → Missing s line → Replayed s script [] none (missing 1)

-- the trace of the whole run was appended to what stood
pub record Ran (script before now : List ℕ) (k : Summary) (e : Ending) : Type 0 where
  pub trace : List ℕ
  pub replayed : Replayed (record { limiter = None; position = None }) script trace k e
  pub put : now ≡ before ++ trace

-- nothing of what stood was lost
pub record Grown (before now : List ℕ) : Type 0 where
  pub more : List ℕ
  pub put : now ≡ before ++ more
