use Rattle.std.proofs.Common.{rules}
use Rattle.limiter.proofs.Pacing.{paced}
use Rattle.limiter.proofs.position.AtomicPosition.allow.Goals as goal

pub returns-in_default-clause-paced : goal.returns-in_default-clause-paced
returns-in_default-clause-paced c = paced (search rules)

pub returns-in_default-spend-clause-paced : goal.returns-in_default-spend-clause-paced
returns-in_default-spend-clause-paced c = paced (search rules)

pub returns-clause-paced : goal.returns-clause-paced
returns-clause-paced c = paced (search rules)
