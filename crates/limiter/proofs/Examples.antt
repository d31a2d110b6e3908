-- The worked examples, by computation. Assumes nothing.
use Rattle.std.proofs.Common.{refl, arith}
use Rattle.limiter.specs.Figures.{Figures}

pub figures : Figures
figures = record {
  bounded = λ rate t0 readings. refl;
  moved = λ r now reached. omega arith;
  moves = λ s now. omega arith;
  back = λ s now gone. omega arith;
  slowest = refl;
  fastest = refl;
  burst = refl;
  pause = refl;
  remainder = refl;
  reports = refl;
  early = refl;
}
