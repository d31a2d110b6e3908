-- What one turn of the scan keeps.
use Rattle.std.proofs.Common.{◌≡◌, ℕ, ◌+◌, ◌<◌, ◌≤◌, Bool, true, false, Some, None, Option, MatchOption, cond, ◌&&◌, List, [], ◌∷◌, ◌++◌, length, sym, refl, ap, ◌∙◌, subst, arith, length-append, ltb-false}
use lib.Utf8.{scalar, scalars, encode, encodes}
use Rattle.std.specs.Str.{chars}
use Rattle.std.specs.Bool.{then_some}
use Rattle.std.proofs.lemmas.Bool.{false≢true, true≢false}
use Rattle.std.proofs.lemmas.Option.{none-some}
use Rattle.std.proofs.lemmas.Str.{cons_from_encodes, length-encode, len_utf8_bounds}
use Rattle.std.proofs.str.Laws.{both}
use Rattle.utf8.specs.Rfc.{Char, NoChar}
use Rattle.utf8.proofs.Standard.{encoded, scalar_is, char}
use Rattle.escape.specs.Reader.{verdict, after}
use Rattle.escape.specs.Reader.{ended as closes}
use Rattle.escape.specs.Reading.{goes, accepts, kept, letters}
use Rattle.escape.specs.declared.reader.State.{State}
use Rattle.escape.specs.declared.reader.State.TheVariants.{Ground}
use Rattle.escape.specs.declared.reader.Verdict.{Verdict}
use Rattle.escape.specs.declared.reader.Verdict.TheVariants.{Plain, Colour}
use Rattle.text.specs.declared.metrics.Metrics.{Metrics}
use Rattle.text.specs.Texts.{utf8, admissible, characters}
use Rattle.text.specs.Rows.{wraps, start, placed, metrics}
use Rattle.text.specs.Outcomes.{measured}
use Rattle.text.proofs.Deciding.{utf8_of, codes_of}

-- a character takes a byte at least
pub shorter : (rest tail : List ℕ) (c : ℕ) → Char rest c tail → length tail < length rest
shorter rest tail c h = omega (arith, ap length (encoded h), length-append (encode c) tail, length-encode c, len_utf8_bounds c)

goes_on : (v : Option Verdict) (b : Bool) → (v ≡ None → ⊥) → b ≡ true → goes v b ≡ true
goes_on (Some Plain) b h e = e
goes_on (Some Colour) b h e = e
goes_on None b h e = absurd (h refl)

pub went_on : (v : Option Verdict) (b : Bool) → goes v b ≡ true → (v ≡ None → ⊥) × (b ≡ true)
went_on (Some Plain) b e = (λ p. none-some _ (sym p), e)
went_on (Some Colour) b e = (λ p. none-some _ (sym p), e)
went_on None b e = absurd (false≢true e)

module _ (W : ℕ) (u : ℕ → ℕ) where
  -- a character moves the pen, a part of a colour sequence does not
  abbrev advance : Option Verdict → ℕ → Metrics → Metrics
  advance (Some Plain) c m = placed W (u c) m
  advance (Some Colour) c m = m
  advance None c m = m

  advanced : (v : Option Verdict) (c : ℕ) (m : Metrics) (xs : List ℕ) → metrics W u m (kept v c xs) ≡ metrics W u (advance v c m) xs
  advanced (Some Plain) c m xs = refl
  advanced (Some Colour) c m xs = refl
  advanced None c m xs = refl

  -- bs, read on from the state st, is text, and brings the measure from m to M
  pub record Gives (st : State) (m : Metrics) (bs : List ℕ) (M : Metrics) : Type 0 where
    pub codes : List ℕ
    pub valid : scalars codes ≡ true
    pub whole : encodes codes ≡ bs
    pub accepted : accepts st codes ≡ true
    pub total : metrics W u m (letters st codes) ≡ M

  -- from what follows a character to the text that begins with it, and back
  push : (st : State) (m : Metrics) (rest tail : List ℕ) (c : ℕ) → Char rest c tail → (verdict st c ≡ None → ⊥) → (M : Metrics) → Gives (after st c) (advance (verdict st c) c m) tail M → Gives st m rest M
  push st m rest tail c h on M g = record {
    codes = c ∷ g.codes;
    valid = λ i. scalar_is h i && g.valid i;
    whole = ap (λ l. encode c ++ l) g.whole ∙ sym (encoded h);
    accepted = goes_on (verdict st c) _ on g.accepted;
    total = advanced (verdict st c) c m (letters (after st c) g.codes) ∙ g.total;
  }

  pop : (st : State) (m : Metrics) (rest tail : List ℕ) (c : ℕ) → Char rest c tail → (M : Metrics) → Gives st m rest M → (verdict st c ≡ None → ⊥) × Gives (after st c) (advance (verdict st c) c m) tail M
  pop st m rest tail c h M g =
      let cut = cons_from_encodes g.codes tail c (g.whole ∙ encoded h) in
      let on = went_on (verdict st c) _ (subst (λ l. accepts st l ≡ true) cut.1 g.accepted) in (
        on.0,
        record {
          codes = cut.0;
          valid = (both (scalar c) _ (subst (λ l. scalars l ≡ true) cut.1 g.valid)).1;
          whole = cut.2;
          accepted = on.1;
          total = sym (advanced (verdict st c) c m (letters (after st c) cut.0)) ∙ subst (λ l. metrics W u m (letters st l) ≡ M) cut.1 g.total;
        },
      )

  -- what is left answers as the whole does
  pub record Sofar (s : List ℕ) (st : State) (m : Metrics) (rest : List ℕ) : Type 0 where
    pub same : (M : Metrics) → (Gives st m rest M → Gives Ground start s M) × (Gives Ground start s M → Gives st m rest M)
    pub rows : m.height + length rest ≤ length s + 1
    pub column : m.last_line_width ≤ 514

  pub first : (s : List ℕ) (st : State) (m : Metrics) → st ≡ Ground → m ≡ start → Sofar s st m s
  first s st m e f = subst (λ x. Sofar s x m s) (sym e) (subst (λ n. Sofar s Ground n s) (sym f) (record { same = λ M. (λ g. g, λ g. g); rows = omega arith; column = omega arith }))

  -- ---- one character more
  abbrev Near : Metrics → Metrics → Type 0
  Near m n = (n.height ≤ m.height + 1) × (n.last_line_width ≤ 514)

  placed_near : (w : ℕ) (m : Metrics) → W ≤ 512 → w ≤ 2 → Near m (placed W w m)
  placed_near w m h k = by_test (wraps W m.last_line_width w) refl
    where
      by_test : (b : Bool) → wraps W m.last_line_width w ≡ b → Near m (cond b (record { height = m.height + 1; last_line_width = w }) (record { height = m.height; last_line_width = m.last_line_width + w }))
      by_test true e = (omega arith, omega arith)
      by_test false e = (omega arith, omega (arith, ltb-false W (m.last_line_width + w) e))

  more : (s : List ℕ) (st : State) (m : Metrics) (rest tail : List ℕ) (c : ℕ) (v : Option Verdict) → v ≡ verdict st c → (v ≡ None → ⊥) → Near m (advance v c m) → Sofar s st m rest → Char rest c tail → Sofar s (after st c) (advance v c m) tail
  more s st m rest tail c v e on near h k =
      let on' : verdict st c ≡ None → ⊥ = λ p. on (e ∙ p) in
      record {
        same = λ M.
            (λ g. (h.same M).0 (push st m rest tail c k on' M (subst (λ x. Gives (after st c) (advance x c m) tail M) e g)), λ g. subst (λ x. Gives (after st c) (advance x c m) tail M) (sym e) (pop st m rest tail c k M ((h.same M).1 g)).1);
        rows = omega (arith, near.0, h.rows, shorter rest tail c k);
        column = near.1;
      }

  pub plain : (s : List ℕ) (st st' : State) (m m' : Metrics) (rest tail : List ℕ) (c w : ℕ) → W ≤ 512 → u c ≤ 2 → Sofar s st m rest → Char rest c tail
      → Some Plain ≡ verdict st c → st' ≡ after st c → w ≡ u c → m' ≡ placed W w m → Sofar s st' m' tail
  plain s st st' m m' rest tail c w lim narrow h k v p q r =
      let same : m' ≡ placed W (u c) m = r ∙ ap (λ n. placed W n m) q in
      subst (λ x. Sofar s x m' tail) (sym p) (subst (λ n. Sofar s (after st c) n tail) (sym same) (more s st m rest tail c (Some Plain) v (λ e. none-some _ (sym e)) (placed_near (u c) m lim narrow) h k))

  pub colour : (s : List ℕ) (st st' : State) (m : Metrics) (rest tail : List ℕ) (c : ℕ) → Sofar s st m rest → Char rest c tail → Some Colour ≡ verdict st c → st' ≡ after st c → Sofar s st' m tail
  colour s st st' m rest tail c h k v p =
      subst (λ x. Sofar s x m tail) (sym p) (more s st m rest tail c (Some Colour) v (λ e. none-some _ (sym e)) (omega arith, h.column) h k)

  -- ---- the answers
  refusing : (s : List ℕ) → ((M : Metrics) → Gives Ground start s M → ⊥) → admissible s ≡ false
  unfolding admissible
  refusing s none = by (admissible s) refl
    where
      by : (b : Bool) → admissible s ≡ b → b ≡ false
      by false e = refl
      by true e =
          let k = both (utf8 s) (accepts Ground (chars s)) e in
          let c = codes_of s k.0 in
          absurd (none _ (record { codes = chars s; valid = c.0; whole = c.1; accepted = k.1; total = refl }))

  pub no_char : (s : List ℕ) (st : State) (m : Metrics) (rest : List ℕ) → Sofar s st m rest → 0 < length rest → NoChar rest → admissible s ≡ false
  no_char s st m rest h some none = refusing s (λ M g. none_of ((h.same M).1 g))
    where
      none_for : (cs : List ℕ) → scalars cs ≡ true → encodes cs ≡ rest → ⊥
      none_for [] v e = omega (arith, ap length e)
      none_for (c ∷ cs) v e = none c (encodes cs) (char rest c (encodes cs) (both (scalar c) _ v).0 (sym e))

      none_of : {M : Metrics} → Gives st m rest M → ⊥
      none_of k = none_for k.codes k.valid k.whole

  pub refused : (s : List ℕ) (st : State) (m : Metrics) (rest tail : List ℕ) (c : ℕ) → Sofar s st m rest → Char rest c tail → None ≡ verdict st c → admissible s ≡ false
  refused s st m rest tail c h k e = refusing s (λ M g. (pop st m rest tail c k M ((h.same M).1 g)).0 (sym e))

  closed : (st : State) (cs : List ℕ) → length (encodes cs) ≡ 0 → accepts st cs ≡ true → closes st ≡ true
  closed st [] e a = a
  closed st (c ∷ cs) e a = absurd (omega (arith, e, length-append (encode c) (encodes cs), length-encode c, len_utf8_bounds c))

  pub open_end : (s : List ℕ) (st : State) (m : Metrics) (rest : List ℕ) → Sofar s st m rest → length rest ≡ 0 → false ≡ closes st → admissible s ≡ false
  open_end s st m rest h e f = refusing s (λ M g. let k = (h.same M).1 g in true≢false (sym (closed st k.codes (ap length k.whole ∙ e) k.accepted) ∙ sym f))

  pub done : (s : List ℕ) (st : State) (m : Metrics) (rest : List ℕ) → Sofar s st m rest → length rest ≡ 0 → true ≡ closes st → (admissible s ≡ true) × (m ≡ measured W u s)
  unfolding admissible characters measured
  done s st m (b ∷ rest) h e f = absurd (omega arith)
  done s st m [] h e f =
      let g = (h.same m).0 (record { codes = []; valid = refl; whole = refl; accepted = sym f; total = refl }) in
      let k = utf8_of g.codes s g.valid g.whole in
      ((λ i. k.0 i && (ap (accepts Ground) k.1 ∙ g.accepted) i), sym g.total ∙ ap (λ l. metrics W u start (letters Ground l)) (sym k.1))

  -- at the end of the text the measure is its answer, where the reader is between sequences
  pub ended : (s : List ℕ) (st : State) (m : Metrics) (rest : List ℕ) (b : Bool) → Sofar s st m rest → length rest ≡ 0 → b ≡ closes st
      → MatchOption (then_some b m) (admissible s ≡ false) (λ n. (admissible s ≡ true) × (n ≡ measured W u s))
  ended s st m rest true h e f = done s st m rest h e f
  ended s st m rest false h e f = open_end s st m rest h e f
