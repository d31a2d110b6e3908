-- The worked examples, by computation.
use Rattle.std.proofs.Common.{refl}
use lib.Utf8.{encode}
use Rattle.std.specs.Str.{chars}
use Rattle.text.specs.Texts.{admissible, characters}
use Rattle.text.specs.Outcomes.{measured}
use Rattle.limiter.proofs.Examples as limiter
use Rattle.figures.specs.Figures.{Figures}

pub figures : Figures
unfolding encode chars admissible characters measured
figures = record {
  ten = record { accepted = refl; is = refl };
  eleven = record { accepted = refl; is = refl };
  empty = record { accepted = refl; is = refl };
  coloured = record { accepted = refl; is = refl };
  wide = record { accepted = refl; is = refl };
  longest = record { accepted = refl; is = refl };
  too_long = refl;
  narrowest = refl;
  too_narrow = refl;
  bell = refl;
  cut_short = refl;
  limiters = limiter.figures;
}
