-- What a refusal returns: its number, and for three of them one value more.
use Rattle.std.specs.Prelude.{ℕ, Some, None, Ok, Err, Option, Result}
use Rattle.refusal.specs.declared.Refusal.{Refusal}
use Rattle.refusal.specs.declared.Refusal.TheVariants.{Size, Cells, Rate, SlotsTaken, NotHeld, NotAdmissible, TooLong, TooMany, Credit}

abbrev pub number : Refusal → ℕ
number Size = 1
number Cells = 2
number Rate = 3
number SlotsTaken = 4
number NotHeld = 5
number (NotAdmissible line) = 6
number (TooLong line) = 7
number TooMany = 8
number (Credit ordinal) = 9

-- the index of the line (6 and 7) or the ordinal of the operation (9)
abbrev pub place : Refusal → Option ℕ
place Size = None
place Cells = None
place Rate = None
place SlotsTaken = None
place NotHeld = None
place (NotAdmissible line) = Some line
place (TooLong line) = Some line
place TooMany = None
place (Credit ordinal) = Some ordinal

-- the number of an answer: 0 where the call was not declined
abbrev pub code : {T : Type 0} → Result T Refusal → ℕ
code (Ok x) = 0
code (Err e) = number e

-- what an answer returns beside its number
abbrev pub beside : {T : Type 0} → Result T Refusal → Option ℕ
beside (Ok x) = None
beside (Err e) = place e
