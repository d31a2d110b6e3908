-- What is said of a line that was not answered.
use Rattle.std.specs.Prelude.{ℕ, List, ◌++◌, codes, decimal}
use Rattle.replay.specs.Messages.{message}
use Rattle.runner.specs.declared.stop.Halt.{Halt}
use Rattle.runner.specs.declared.stop.Halt.TheVariants as halts
use Rattle.runner.specs.declared.stop.Stop.{Stop}
use Rattle.runner.specs.declared.summary.Summary.{Summary}

abbrev pub reason : Halt → List ℕ
reason (halts.Fault f) = message f
reason halts.Missing = codes "no limiter of this kind was made"
reason halts.Memory = codes "out of memory"

-- what is said of the line at which a run stopped
abbrev pub stop_shown : Stop → List ℕ
stop_shown s = codes "line " ++ (decimal s.line ++ (codes ": " ++ reason s.halt))

-- what is shown of the counts
abbrev pub summary_shown : Summary → List ℕ
summary_shown k = codes "commands " ++ (decimal k.commands ++ (codes "\nrefused " ++ decimal k.refused))
