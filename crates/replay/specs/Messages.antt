-- What is said of a faulty line.
use Rattle.std.specs.Prelude.{ℕ, List, codes}
use Rattle.replay.specs.declared.command.Fault.{Fault}
use Rattle.replay.specs.declared.command.Fault.TheVariants.{Unknown, Unsupported, Words, Number, Rate, Rule, Escape}

abbrev pub message : Fault → List ℕ
message Unknown = codes "unknown command"
message Unsupported = codes "command not supported"
message Words = codes "wrong number of words"
message Number = codes "not a number from 0 to 18446744073709551615"
message Rate = codes "rate above 255"
message Rule = codes "width rule is neither plain nor house"
message Escape = codes "unknown escape in text"
