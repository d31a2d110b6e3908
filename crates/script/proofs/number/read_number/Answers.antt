use Rattle.std.proofs.Common.{arith}
use Rattle.std.specs.Str.{IsUtf8}
use Rattle.std.proofs.lemmas.Str.{IsUtf8-from_ascii}
use Rattle.std.proofs.lemmas.Fmt.{IsAscii-from_digits}
use Rattle.script.proofs.number.read_number.Goals as goal

-- digits are ASCII
pub returns-in_err-digits : goal.returns-in_err-digits
returns-in_err-digits c = rw c.from_residual.ensures (λ n h. let text : IsUtf8 c.args.word.now = IsUtf8-from_ascii _ (IsAscii-from_digits _ h.digits.1) in grind arith)
