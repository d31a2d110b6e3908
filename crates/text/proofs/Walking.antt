-- Text read one character at a time.
use Rattle.std.proofs.Common.{◌≡◌, ℕ, ◌≤◌, true, Some, None, Option, ◌&&◌, List, [], ◌∷◌, length, sym, refl, ap, ◌∙◌, subst, arith}
use lib.Utf8.{scalar, scalars, encodes}
use Rattle.std.specs.Str.{chars}
use Rattle.std.proofs.lemmas.Str.{cons_from_encodes}
use Rattle.std.proofs.str.Laws.{both}
use Rattle.utf8.specs.Rfc.{Char, NoChar}
use Rattle.utf8.proofs.Standard.{encoded, char}
use Rattle.escape.specs.Reader.{verdict, after}
use Rattle.escape.specs.Reading.{accepts, kept, letters}
use Rattle.std.specs.Iterator.{Drains}
use Rattle.escape.specs.declared.reader.State.{State}
use Rattle.escape.specs.declared.reader.State.TheVariants.{Ground}
use Rattle.escape.specs.declared.reader.Verdict.{Verdict}
use Rattle.escape.specs.declared.reader.Verdict.TheVariants.{Plain, Colour}
use Rattle.text.specs.declared.characters.Characters.{Characters}
use Rattle.text.specs.Texts.{admissible, characters}
use Rattle.text.specs.Characters.{readable, left, NextCharacter, gives}
use Rattle.text.proofs.Deciding.{utf8_of, codes_of}
use Rattle.text.proofs.Scanning.{went_on, shorter}

-- the character at the head of what is read, and what follows it
pub record Head (st : State) (c : ℕ) (bs tail : List ℕ) : Type 0 where
  pub taken : verdict st c ≡ None → ⊥
  pub on : readable (after st c) tail ≡ true
  pub left : left st bs ≡ kept (verdict st c) c (left (after st c) tail)

pub head : (st : State) (c : ℕ) (bs tail : List ℕ) → Char bs c tail → readable st bs ≡ true → Head st c bs tail
head st c bs tail h r =
    let k = both (scalars (chars bs) && _) (accepts st (chars bs)) r in
    let codes = codes_of bs k.0 in
    let cut = cons_from_encodes (chars bs) tail c (codes.1 ∙ encoded h) in
    let rest = utf8_of cut.0 tail (both (scalar c) _ (subst (λ l. scalars l ≡ true) cut.1 codes.0)).1 cut.2 in
    let on = went_on (verdict st c) _ (subst (λ l. accepts st l ≡ true) cut.1 k.1) in
    record {
      taken = on.0;
      on = λ i. rest.0 i && (ap (accepts (after st c)) rest.1 ∙ on.1) i;
      left = ap (letters st) cut.1 ∙ ap (λ l. kept (verdict st c) c (letters (after st c) l)) (sym rest.1);
    }

-- where no character stands, nothing is left
pub none_left : (st : State) (bs : List ℕ) → NoChar bs → readable st bs ≡ true → left st bs ≡ []
none_left st bs h r = by (chars bs) codes.0 codes.1
  where
    codes : (scalars (chars bs) ≡ true) × (encodes (chars bs) ≡ bs)
    codes = codes_of bs (both (scalars (chars bs) && _) (accepts st (chars bs)) r).0

    by : (cs : List ℕ) → scalars cs ≡ true → encodes cs ≡ bs → letters st cs ≡ []
    by [] v e = refl
    by (c ∷ cs) v e = absurd (h c (encodes cs) (char bs c (encodes cs) (both (scalar c) _ v).0 (sym e)))

module _ (st₀ : State) (bs₀ : List ℕ) where
  -- only colour sequences were read since the question
  pub record Sofar (st : State) (bs : List ℕ) : Type 0 where
    pub kept : readable st₀ bs₀ ≡ true → readable st bs ≡ true
    pub same : readable st₀ bs₀ ≡ true → left st₀ bs₀ ≡ left st bs
    pub shorter : length bs ≤ length bs₀

  module _ (st st' : State) (bs tail : List ℕ) (c : ℕ) (s : Sofar st bs) (h : Char bs c tail) (e : st' ≡ after st c) where
    at : readable st₀ bs₀ ≡ true → Head st c bs tail
    at r = head st c bs tail h (s.kept r)

    on : readable st₀ bs₀ ≡ true → readable st' tail ≡ true
    on r = ap (λ x. readable x tail) e ∙ (at r).on

    gave : (v : Option Verdict) → v ≡ verdict st c → readable st₀ bs₀ ≡ true → left st₀ bs₀ ≡ kept v c (left st' tail)
    gave v p r = s.same r ∙ (at r).left ∙ (λ i. kept (sym p i) c (left (sym e i) tail))

    pub colour : Some Colour ≡ verdict st c → Sofar st' tail
    colour p = record { kept = on; same = gave (Some Colour) p; shorter = omega (arith, s.shorter, shorter bs tail c h) }

    pub plain : Some Plain ≡ verdict st c → NextCharacter st₀ bs₀ (Some c) st' tail
    plain p = record { kept = on; item = gave (Some Plain) p }

    pub refused : None ≡ verdict st c → NextCharacter st₀ bs₀ None st' tail
    refused p = record { kept = on; item = λ r. absurd ((at r).taken (sym p)) }

  pub ended : (st : State) (bs : List ℕ) → Sofar st bs → NoChar bs → NextCharacter st₀ bs₀ None st bs
  ended st bs s h =
      let none : readable st₀ bs₀ ≡ true → left st bs ≡ [] = λ r. none_left st bs h (s.kept r) in
      record { kept = s.kept; item = λ r. (s.same r ∙ none r, none r) }

pub first : (st : State) (bs : List ℕ) → Sofar st bs st bs
first st bs = record { kept = λ r. r; same = λ r. refl; shorter = omega arith }

-- ---- the whole of a text
pub readable_whole : (st : State) (bs : List ℕ) → st ≡ Ground → readable st bs ≡ admissible bs
unfolding admissible
readable_whole st bs e = ap (λ x. readable x bs) e

pub left_whole : (st : State) (bs : List ℕ) → st ≡ Ground → left st bs ≡ characters bs
unfolding characters
left_whole st bs e = ap (λ x. left x bs) e

-- what a loop takes is what was left
drained : (xs : List ℕ) (s : Characters) → readable s.reader s.rest.now ≡ true → Drains gives s xs → xs ≡ left s.reader s.rest.now
drained [] s r (u, (t, e, h)) = sym ((subst (λ x. gives x None u) (sym e) h).item r).0
drained (x ∷ xs) s r (u, (t, (j, one, more), h)) =
    ap (λ l. x ∷ l) (drained xs j (one.kept r) (u, (t, more, h))) ∙ sym (one.item r)

pub all_items : (s : Characters) → s.reader ≡ Ground → admissible s.rest.now ≡ true → (xs : List ℕ) → Drains gives s xs → xs ≡ characters s.rest.now
all_items s e a xs d = drained xs s (readable_whole s.reader s.rest.now e ∙ a) d ∙ left_whole s.reader s.rest.now e
