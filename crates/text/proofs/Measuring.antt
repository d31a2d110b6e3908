-- What the public calls promise of a measure.
use Rattle.std.proofs.Common.{◌≡◌, ℕ, suc, ◌≤◌, true, false, Some, None, Option, MatchOption, List, [], ◌∷◌, length, sym, refl, ap, subst, arith, rules, ok_or}
use Rattle.std.specs.Str.{chars}
use Rattle.std.proofs.lemmas.Bool.Decides.{nat_tests}
use Rattle.refusal.specs.declared.Refusal.TheVariants.{NotAdmissible}
use Rattle.std.proofs.lemmas.Str.{length-le-encodes}
use Rattle.std.proofs.str.Laws.{both}
use Rattle.escape.specs.Reader.{verdict, after}
use Rattle.escape.specs.Reading.{kept, letters, accepts}
use Rattle.escape.specs.declared.reader.State.{State}
use Rattle.escape.specs.declared.reader.State.TheVariants.{Ground}
use Rattle.escape.specs.declared.reader.Verdict.{Verdict}
use Rattle.escape.specs.declared.reader.Verdict.TheVariants.{Plain, Colour}
use Rattle.text.specs.declared.metrics.Metrics.{Metrics}
use Rattle.text.specs.Width.{Rule}
use Rattle.text.specs.Texts.{utf8, admissible, characters}
use Rattle.text.specs.Outcomes.{measured, Line, Measured}
use Rattle.text.proofs.Deciding.{decided, codes_of}
use Rattle.text.proofs.Dividing.{measures, column_fits, rows_within}

kept_fewer : (v : Option Verdict) (c : ℕ) (xs : List ℕ) → length (kept v c xs) ≤ suc (length xs)
kept_fewer (Some Plain) c xs = omega arith
kept_fewer (Some Colour) c xs = omega arith
kept_fewer None c xs = omega arith

letters_fewer : (cs : List ℕ) (st : State) → length (letters st cs) ≤ length cs
letters_fewer [] st = omega arith
letters_fewer (c ∷ cs) st = omega (arith, kept_fewer (verdict st c) c (letters (after st c) cs), letters_fewer cs (after st c))

-- a character takes a byte at least
pub characters_fewer : (bs : List ℕ) → admissible bs ≡ true → length (characters bs) ≤ length bs
unfolding admissible characters
characters_fewer bs e =
    let k = codes_of bs (both (utf8 bs) (accepts Ground (chars bs)) e).0 in
    omega (arith, letters_fewer (chars bs) Ground, length-le-encodes (chars bs), ap length k.1)

pub line : (W : ℕ) (u : ℕ → ℕ) (bs : List ℕ) (m : Metrics) → Rule u → 2 ≤ W → admissible bs ≡ true → m ≡ measured W u bs → Line W u bs m
unfolding measured
line W u bs m rule h e is = subst (Line W u bs) (sym is) computed
  where
    fits : (c : ℕ) → u c ≤ W
    fits c = omega (arith, rule.narrow c)

    computed : Line W u bs (measured W u bs)
    computed =
        let r = rows_within W u fits (characters bs) in
        record {
          text = (decided bs).yes e;
          is = refl;
          measures = measures W u fits (characters bs);
          column = column_fits W u fits (characters bs);
          rows = r.0;
          most = omega (arith, r.1, characters_fewer bs e);
        }

-- the outcome of a scan is that of the measure
pub answered : (W : ℕ) (u : ℕ → ℕ) (bs : List ℕ) (r : Option Metrics) → Rule u → 2 ≤ W → W ≤ 512 → length bs ≤ 128 → MatchOption r (admissible bs ≡ false) (λ m. (admissible bs ≡ true) × (m ≡ measured W u bs))
    → Measured W u bs (ok_or r (NotAdmissible 0))
answered W u bs None rule low high short refused = record { number = search (rules, nat_tests); place = search (rules, nat_tests); refused = search (rules, nat_tests); value = tt }
answered W u bs (Some m) rule low high short (fine, is) = record { number = search (rules, nat_tests); place = search (rules, nat_tests); refused = search (rules, nat_tests); value = line W u bs m rule low fine is }
