-- The loop that looks for the end of a sequence.
use Rattle.std.proofs.Common.{◌≡◌, ℕ, suc, ◌+◌, ◌<◌, true, false, ◌⊎◌, List, ◌∷◌, length, get_or, drop, Some, None, Option, sym, refl, ap, ◌∙◌, inl, inr, add-one, arith, drop-cons, MatchOption}
use lib.Seq.{drop-length}
use Rattle.std.proofs.lemmas.Bool.{false≢true}
use Rattle.std.proofs.lemmas.Option.{none-some}
use Rattle.escape.specs.declared.reader.State.{State}
use Rattle.escape.specs.declared.reader.State.TheVariants.{Ground, Escaped, Parameters, Intermediates}
use Rattle.escape.specs.declared.reader.Verdict.{Verdict}
use Rattle.escape.specs.declared.reader.Verdict.TheVariants.{Plain, Colour}
use Rattle.escape.specs.Reader.{verdict, after, ended}
use Rattle.escape.specs.Grammar.{Heads}
use Rattle.escape.specs.Reading.{one_more, closes, closing}
use Rattle.escape.proofs.Walk.{closes_on, heads, closes_head}

abbrev pub plus : ℕ → Option ℕ → Option ℕ
plus i None = None
plus i (Some n) = Some (i + n)

-- what is left answers as the whole does, i bytes on
abbrev pub Sofar : List ℕ → ℕ → State → Type 0
Sofar s i st = plus i (closing st (drop i s)) ≡ closing Ground s

plus_more : (i : ℕ) (r : Option ℕ) → plus i (one_more r) ≡ plus (i + 1) r
plus_more i None = refl
plus_more i (Some n) = ap Some (let e : i + suc n ≡ i + 1 + n = omega arith in e)

-- one step of the reader, at the place i
stepped : (s : List ℕ) (i : ℕ) (st st' : State) (v : Option Verdict) → i < length s → Sofar s i st → v ≡ verdict st (get_or s i 0) → st' ≡ after st (get_or s i 0)
    → plus i (closes v st' (closing st' (drop (i + 1) s))) ≡ closing Ground s
stepped s i st st' v h inv p q =
    let e : drop i s ≡ get_or s i 0 ∷ drop (i + 1) s = rw (add-one) (drop-cons s i 0 h) in
    (λ k. plus i (closes (p k) (q k) (closing (q k) (drop (i + 1) s)))) ∙ ap (λ l. plus i (closing st l)) (sym e) ∙ inv

closed_state : (st : State) (r : Option ℕ) → ended st ≡ true → closes (Some Colour) st r ≡ Some 1
closed_state Ground r e = refl
closed_state Escaped r e = absurd (false≢true e)
closed_state Parameters r e = absurd (false≢true e)
closed_state Intermediates r e = absurd (false≢true e)

module _ (s : List ℕ) (i : ℕ) (st st' : State) (h : i < length s) (inv : Sofar s i st) (q : st' ≡ after st (get_or s i 0)) where
  pub more : Some Colour ≡ verdict st (get_or s i 0) → false ≡ ended st' → Sofar s (i + 1) st'
  more p e = sym (plus_more i _) ∙ ap (plus i) (sym (closes_on st' _ (sym e))) ∙ stepped s i st st' (Some Colour) h inv p q

  pub found : Some Colour ≡ verdict st (get_or s i 0) → true ≡ ended st' → closing Ground s ≡ Some (i + 1)
  found p e = sym (stepped s i st st' (Some Colour) h inv p q) ∙ ap (plus i) (closed_state st' _ (sym e))

  pub refused : (v : Option Verdict) → (v ≡ Some Plain) ⊎ (v ≡ None) → v ≡ verdict st (get_or s i 0) → closing Ground s ≡ None
  refused v (inl e) p = sym (stepped s i st st' (Some Plain) h inv (sym e ∙ p) q)
  refused v (inr e) p = sym (stepped s i st st' None h inv (sym e ∙ p) q)

pub unclosed : (s : List ℕ) (st : State) → Sofar s (length s) st → closing Ground s ≡ None
unclosed s st inv = sym inv ∙ ap (λ l. plus (length s) (closing st l)) (drop-length s)

-- the two clauses of the answer
pub record Answer (s : List ℕ) (r : Option ℕ) : Type 0 where
  pub found : MatchOption r ((n : ℕ) → Heads s n → ⊥) (λ n. Heads s n)
  pub all : (n : ℕ) → Heads s n → r ≡ Some n

pub some : (s : List ℕ) (n : ℕ) → closing Ground s ≡ Some n → Answer s (Some n)
some s n e = record { found = heads s n e; all = λ m h. sym e ∙ closes_head s m h }

pub nothing : (s : List ℕ) → closing Ground s ≡ None → Answer s None
nothing s e = record { found = λ n h. none-some n (sym e ∙ closes_head s n h); all = λ m h. sym e ∙ closes_head s m h }
