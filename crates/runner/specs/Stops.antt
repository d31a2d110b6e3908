-- What a line leaves that was not answered, and what a run leaves that stopped.
use Rattle.std.specs.Prelude.{◌≡◌, ℕ, List}
use Rattle.replay.specs.Commands.{Refused}
use Rattle.runner.specs.declared.stop.Halt.{Halt}
use Rattle.runner.specs.declared.stop.Halt.TheVariants as halts
use Rattle.runner.specs.declared.stop.Stop.{Stop}
use Rattle.runner.specs.Answers.{State}
use Rattle.runner.specs.declared.summary.Summary.{Summary}
use Rattle.runner.specs.Runs.{Missing, Ran, Grown, faulty, missing}

-- a line that was not answered leaves all as it was; without memory, a part of its trace may stand
abbrev pub Halted : State → List ℕ → State → List ℕ → List ℕ → Halt → Type 0
Halted s line t before now (halts.Fault f) = Refused line f × (t ≡ s) × (now ≡ before)
Halted s line t before now halts.Missing = Missing s line × (t ≡ s) × (now ≡ before)
Halted s line t before now halts.Memory = Grown before now

abbrev pub stopped : List ℕ → List ℕ → List ℕ → ℕ → Halt → Type 0
stopped script before now n (halts.Fault f) = (k : Summary) × Ran script before now k (faulty n f)
stopped script before now n halts.Missing = (k : Summary) × Ran script before now k (missing n)
stopped script before now n halts.Memory = Grown before now

abbrev pub Stopped : List ℕ → List ℕ → List ℕ → Stop → Type 0
Stopped script before now s = stopped script before now s.line s.halt
