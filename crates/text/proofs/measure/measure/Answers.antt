use Rattle.std.proofs.Common.{arith}
use Rattle.std.proofs.lemmas.Bool.Decides.{nat_tests}
use Rattle.text.proofs.Measuring.{answered}
use Rattle.text.proofs.measure.measure.Goals as goal

pub returns : goal.returns
returns g c =
    rw c.ok_or.ensures.value (answered _ _ _ c.scan.result (g.R.WidthRule.lawful c.args.rule.now) (grind (arith, nat_tests)) (grind (arith, nat_tests)) (omega arith) c.scan.ensures)
