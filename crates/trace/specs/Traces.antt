-- The trace: each command's line as it stood, and its answer.
use Rattle.std.specs.Prelude.{ℕ, Bool, true, false, List, [], ◌∷◌, ◌++◌, Some, None, codes, decimal, Option}
use Rattle.trace.specs.declared.answer.Answer.{Answer}
use Rattle.trace.specs.declared.answer.Answer.TheVariants.{Ok, Refused, Metrics, Yes, No, Position}

abbrev pub yes_or_no : Bool → Answer
yes_or_no true = Yes
yes_or_no false = No

abbrev pub place : Option ℕ → List ℕ
place None = []
place (Some k) = codes " at " ++ decimal k

abbrev pub shown : Answer → List ℕ
shown Ok = codes "ok"
shown (Refused n at) = codes "refused " ++ (decimal n ++ place at)
shown (Metrics rows column) = codes "rows " ++ (decimal rows ++ (codes " column " ++ decimal column))
shown Yes = codes "yes"
shown No = codes "no"
shown (Position n) = codes "position " ++ decimal n

abbrev pub traced : List ℕ → Answer → List ℕ
traced line a = codes "> " ++ (line ++ (10 ∷ (shown a ++ (10 ∷ []))))
