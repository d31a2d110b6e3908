use Rattle.std.proofs.Common.{rules}
use Rattle.utf8.specs.Rfc.{NoChar}
use Rattle.utf8.proofs.Heads.{narrow2, narrow3, narrow4}
use Rattle.utf8.proofs.Standard.{as_std}
use Rattle.utf8.proofs.decode.Goals as goal

pub returns-in_err-two-in-len2-up : goal.returns-in_err-two-in-len2-up
returns-in_err-two-in-len2-up c =
    let none : NoChar c.args.s.now = narrow2 c.args.s.now (search rules) c.if-a-lt224.true c.in_err-two-in-len2-up.ensures in
    simp c.from_residual.ensures (record { read = none; all = none; place = tt; standard = as_std })

pub returns-in_err-three-in-len3-up : goal.returns-in_err-three-in-len3-up
returns-in_err-three-in-len3-up c =
    let none : NoChar c.args.s.now = narrow3 c.args.s.now (search rules) c.if-a-lt240.true c.in_err-three-in-len3-up.ensures in
    simp c.from_residual-in_err-three-in-len3-up.ensures (record { read = none; all = none; place = tt; standard = as_std })

pub returns-in_err-four-in-len4-up : goal.returns-in_err-four-in-len4-up
returns-in_err-four-in-len4-up c =
    let none : NoChar c.args.s.now = narrow4 c.args.s.now (search rules) c.in_err-four-in-len4-up.ensures in
    simp c.from_residual-in_err-four-in-len4-up.ensures (record { read = none; all = none; place = tt; standard = as_std })
