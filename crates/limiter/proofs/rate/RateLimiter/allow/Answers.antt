use Rattle.std.proofs.Common.{rules}
use Rattle.limiter.proofs.Rationing.{rationed}
use Rattle.limiter.proofs.rate.RateLimiter.allow.Goals as goal

pub returns-in_default-clause-rationed : goal.returns-in_default-clause-rationed
returns-in_default-clause-rationed c = rationed (search rules)

pub returns-in_default-spend-clause-rationed : goal.returns-in_default-spend-clause-rationed
returns-in_default-spend-clause-rationed c = rationed (search rules)

pub returns-clause-rationed : goal.returns-clause-rationed
returns-clause-rationed c = rationed (search rules)
