use Rattle.std.proofs.Common.{◌≡◌, rules}
use Rattle.std.specs.Result.{result_map_both}
use Rattle.replay.specs.declared.command.Fault.TheVariants.{Rate}
use Rattle.replay.proofs.Taking.{passed, no_rate_there, rate_cases}
use Rattle.replay.proofs.arguments.Words.rate.Goals as goal

pub returns-in_err-number : goal.returns-in_err-number
returns-in_err-number c = passed c.from_residual.result _ _ _ c.from_residual.ensures.1 (no_rate_there c.in_err-number.ensures)

pub returns : goal.returns
returns c =
    let mapped : c.map_err.result ≡ result_map_both (λ m. m) (λ _. Rate) c.try_from.result = search rules in
    rw mapped (rate_cases c.try_from.result c.in_ok-number.ensures c.try_from.ensures)
