-- The escape reader: what each state makes of the next code. 27 is ESC; 27 91 is the control sequence introducer (CSI).
use Rattle.std.specs.Prelude.{ℕ, Bool, true, false, Some, None, Option, cond, ◌&&◌, ◌||◌, ◌==◌, nat_le}
use Rattle.escape.specs.declared.reader.State.{State}
use Rattle.escape.specs.declared.reader.State.TheVariants.{Ground, Escaped, Parameters, Intermediates}
use Rattle.escape.specs.declared.reader.Verdict.{Verdict}
use Rattle.escape.specs.declared.reader.Verdict.TheVariants.{Plain, Colour}

-- c lies between lo and hi
abbrev pub within : ℕ → ℕ → ℕ → Bool
within lo hi c = nat_le lo c && nat_le c hi

-- c is no control: neither below 32 nor from 127 to 159
abbrev pub shown : ℕ → Bool
shown c = within 32 126 c || nat_le 160 c

abbrev pub parameter : ℕ → Bool
parameter c = within 48 63 c

abbrev pub intermediate : ℕ → Bool
intermediate c = within 32 47 c

-- 'm', which ends a colour sequence: without intermediate bytes it is 'select graphic rendition' (SGR)
abbrev pub final : ℕ → Bool
final c = c == 109

abbrev pub verdict : State → ℕ → Option Verdict
verdict Ground c = cond (c == 27) (Some Colour) (cond (shown c) (Some Plain) None)
verdict Escaped c = cond (c == 91) (Some Colour) None
verdict Parameters c = cond (parameter c) (Some Colour) (cond (intermediate c) (Some Colour) (cond (final c) (Some Colour) None))
verdict Intermediates c = cond (intermediate c) (Some Colour) (cond (final c) (Some Colour) None)

abbrev pub after : State → ℕ → State
after Ground c = cond (c == 27) Escaped Ground
after Escaped c = cond (c == 91) Parameters Escaped
after Parameters c = cond (parameter c) Parameters (cond (intermediate c) Intermediates (cond (final c) Ground Parameters))
after Intermediates c = cond (intermediate c) Intermediates (cond (final c) Ground Intermediates)

-- between sequences
abbrev pub ended : State → Bool
ended Ground = true
ended Escaped = false
ended Parameters = false
ended Intermediates = false
