-- The reader takes exactly the sequences of the grammar, and exactly its text.
use Rattle.std.proofs.Common.{◌≡◌, ℕ, suc, ◌≤◌, true, false, List, [], ◌∷◌, ◌++◌, length, take, drop, Some, None, Option, sym, refl, ap, ◌∙◌, subst, arith, take-append-drop, length-take}
use Rattle.std.proofs.lemmas.Bool.{false≢true, true≢false}
use Rattle.std.proofs.lemmas.Bool.Decides.{nat_tests}
use Rattle.std.proofs.lemmas.Option.{none-some}
use Rattle.escape.specs.declared.reader.State.{State}
use Rattle.escape.specs.declared.reader.State.TheVariants.{Ground, Escaped, Parameters, Intermediates}
use Rattle.escape.specs.declared.reader.Verdict.{Verdict}
use Rattle.escape.specs.declared.reader.Verdict.TheVariants.{Plain, Colour}
use Rattle.escape.specs.Reader.{shown, parameter, intermediate, verdict, after, ended}
use Rattle.escape.specs.Grammar.{Each, Sequence, Clean, none, char, colour, Heads}
use Rattle.escape.specs.Reading.{goes, accepts, kept, letters, one_more, closes, closing}

never : {X : Type 0} {st : State} → ended st ≡ false → st ≡ Ground → X
never {X} {st} e g = absurd (true≢false (sym (ap ended g) ∙ e))

-- ---- a walk of the reader through one sequence, or what is left of it
pub data Walk : State → List ℕ → Type 0 where
  last : (st : State) (c : ℕ) → verdict st c ≡ Some Colour → after st c ≡ Ground → Walk st (c ∷ [])
  step : (st : State) (c : ℕ) (q : List ℕ) → verdict st c ≡ Some Colour → ended (after st c) ≡ false → Walk (after st c) q → Walk st (c ∷ q)

-- what is left of a sequence, by the state
record Inters (q : List ℕ) : Type 0 where
  inters : List ℕ
  inters_are : Each intermediate inters
  whole : q ≡ inters ++ 109 ∷ []

record Params (q : List ℕ) : Type 0 where
  params : List ℕ
  inters : List ℕ
  params_are : Each parameter params
  inters_are : Each intermediate inters
  whole : q ≡ params ++ (inters ++ 109 ∷ [])

record Opened (q : List ℕ) : Type 0 where
  bytes : List ℕ
  opened : q ≡ 91 ∷ bytes
  params : Params bytes

abbrev Left : State → List ℕ → Type 0
Left Ground q = Sequence q
Left Escaped q = Opened q
Left Parameters q = Params q
Left Intermediates q = Inters q

-- ---- what a step tells of its code
escapes : (c : ℕ) → verdict Ground c ≡ Some Colour → (c ≡ 27) × (after Ground c ≡ Escaped)
escapes c v = (grind (arith, nat_tests), grind (arith, nat_tests))

opens : (c : ℕ) → verdict Escaped c ≡ Some Colour → (c ≡ 91) × (after Escaped c ≡ Parameters)
opens c v = (grind (arith, nat_tests), grind (arith, nat_tests))

ends_params : (c : ℕ) → verdict Parameters c ≡ Some Colour → after Parameters c ≡ Ground → c ≡ 109
ends_params c v a = grind (arith, nat_tests)

ends_inters : (c : ℕ) → verdict Intermediates c ≡ Some Colour → after Intermediates c ≡ Ground → c ≡ 109
ends_inters c v a = grind (arith, nat_tests)

in_params : (c : ℕ) → after Parameters c ≡ Parameters → verdict Parameters c ≡ Some Colour → parameter c ≡ true
in_params c a v = grind (arith, nat_tests)

to_inters : (c : ℕ) → after Parameters c ≡ Intermediates → intermediate c ≡ true
to_inters c a = grind (arith, nat_tests)

in_inters : (c : ℕ) → after Intermediates c ≡ Intermediates → verdict Intermediates c ≡ Some Colour → intermediate c ≡ true
in_inters c a v = grind (arith, nat_tests)

not_back : (c : ℕ) → (after Parameters c ≡ Escaped → ⊥) × (after Intermediates c ≡ Escaped → ⊥) × (after Intermediates c ≡ Parameters → ⊥)
not_back c = (λ a. grind (arith, nat_tests), λ a. grind (arith, nat_tests), λ a. grind (arith, nat_tests))

-- ---- from the walk to the grammar
more_params : (c : ℕ) (q : List ℕ) → parameter c ≡ true → Params q → Params (c ∷ q)
more_params c q p h = record { params = c ∷ h.params; inters = h.inters; params_are = (p, h.params_are); inters_are = h.inters_are; whole = ap (λ l. c ∷ l) h.whole }

first_inter : (c : ℕ) (q : List ℕ) → intermediate c ≡ true → Inters q → Params (c ∷ q)
first_inter c q p h = record { params = []; inters = c ∷ h.inters; params_are = tt; inters_are = (p, h.inters_are); whole = ap (λ l. c ∷ l) h.whole }

more_inters : (c : ℕ) (q : List ℕ) → intermediate c ≡ true → Inters q → Inters (c ∷ q)
more_inters c q p h = record { inters = c ∷ h.inters; inters_are = (p, h.inters_are); whole = ap (λ l. c ∷ l) h.whole }

-- one step of a walk that goes on, by the state before it and the one after
on_params : (c : ℕ) (q : List ℕ) (st : State) → after Parameters c ≡ st → verdict Parameters c ≡ Some Colour → ended st ≡ false → Left st q → Params (c ∷ q)
on_params c q Ground a v e h = absurd (true≢false e)
on_params c q Escaped a v e h = absurd ((not_back c).0 a)
on_params c q Parameters a v e h = more_params c q (in_params c a v) h
on_params c q Intermediates a v e h = first_inter c q (to_inters c a) h

on_inters : (c : ℕ) (q : List ℕ) (st : State) → after Intermediates c ≡ st → verdict Intermediates c ≡ Some Colour → ended st ≡ false → Left st q → Inters (c ∷ q)
on_inters c q Ground a v e h = absurd (true≢false e)
on_inters c q Escaped a v e h = absurd ((not_back c).1 a)
on_inters c q Parameters a v e h = absurd ((not_back c).2 a)
on_inters c q Intermediates a v e h = more_inters c q (in_inters c a v) h

sequence : (c : ℕ) (q : List ℕ) → c ≡ 27 → Opened q → Sequence (c ∷ q)
sequence c q e h = record {
  params = h.params.params;
  inters = h.params.inters;
  params_are = h.params.params_are;
  inters_are = h.params.inters_are;
  whole = (λ i. e i ∷ q) ∙ ap (λ l. 27 ∷ l) (h.opened ∙ ap (λ l. 91 ∷ l) h.params.whole);
}

opened : (c : ℕ) (q : List ℕ) → c ≡ 91 → Params q → Opened (c ∷ q)
opened c q e h = record { bytes = q; opened = λ i. e i ∷ q; params = h }

walked_on : (st : State) (c : ℕ) (q : List ℕ) → verdict st c ≡ Some Colour → ended (after st c) ≡ false → Left (after st c) q → Left st (c ∷ q)
walked_on Ground c q v e h = let k = escapes c v in sequence c q k.0 (subst (λ s. Left s q) k.1 h)
walked_on Escaped c q v e h = let k = opens c v in opened c q k.0 (subst (λ s. Left s q) k.1 h)
walked_on Parameters c q v e h = on_params c q (after Parameters c) refl v e h
walked_on Intermediates c q v e h = on_inters c q (after Intermediates c) refl v e h

closed : (st : State) (c : ℕ) → verdict st c ≡ Some Colour → after st c ≡ Ground → Left st (c ∷ [])
closed Ground c v a = never refl (sym (escapes c v).1 ∙ a)
closed Escaped c v a = never refl (sym (opens c v).1 ∙ a)
closed Parameters c v a = record { params = []; inters = []; params_are = tt; inters_are = tt; whole = λ i. ends_params c v a i ∷ [] }
closed Intermediates c v a = record { inters = []; inters_are = tt; whole = λ i. ends_inters c v a i ∷ [] }

left : (st : State) (q : List ℕ) → Walk st q → Left st q
left st q (last _ c v a) = closed st c v a
left st q (step _ c p v e w) = walked_on st c p v e (left (after st c) p w)

-- ---- from the grammar to the walk
walk_inters : (is : List ℕ) → Each intermediate is → Walk Intermediates (is ++ 109 ∷ [])
walk_inters [] h = last Intermediates 109 refl refl
walk_inters (c ∷ is) h =
    let a : after Intermediates c ≡ Intermediates = grind (arith, nat_tests, h.0) in
    step Intermediates c (is ++ 109 ∷ []) (grind (arith, nat_tests, h.0)) (ap ended a) (subst (λ s. Walk s (is ++ 109 ∷ [])) (sym a) (walk_inters is h.1))

walk_first : (is : List ℕ) → Each intermediate is → Walk Parameters (is ++ 109 ∷ [])
walk_first [] h = last Parameters 109 refl refl
walk_first (c ∷ is) h =
    let a : after Parameters c ≡ Intermediates = grind (arith, nat_tests, h.0) in
    step Parameters c (is ++ 109 ∷ []) (grind (arith, nat_tests, h.0)) (ap ended a) (subst (λ s. Walk s (is ++ 109 ∷ [])) (sym a) (walk_inters is h.1))

walk_params : (ps is : List ℕ) → Each parameter ps → Each intermediate is → Walk Parameters (ps ++ (is ++ 109 ∷ []))
walk_params [] is h k = walk_first is k
walk_params (c ∷ ps) is h k =
    let a : after Parameters c ≡ Parameters = grind (arith, nat_tests, h.0) in
    step Parameters c (ps ++ (is ++ 109 ∷ [])) (grind (arith, nat_tests, h.0)) (ap ended a) (subst (λ s. Walk s (ps ++ (is ++ 109 ∷ []))) (sym a) (walk_params ps is h.1 k))

walk : (q : List ℕ) → Sequence q → Walk Ground q
walk q h = subst (Walk Ground) (sym h.whole) (step Ground 27 _ refl refl (step Escaped 91 _ refl refl (walk_params h.params h.inters h.params_are h.inters_are)))

-- ---- what a walk makes of the functions
pub closes_on : (st : State) (r : Option ℕ) → ended st ≡ false → closes (Some Colour) st r ≡ one_more r
closes_on Ground r e = absurd (true≢false e)
closes_on Escaped r e = refl
closes_on Parameters r e = refl
closes_on Intermediates r e = refl

closing_walk : (st : State) (q rest : List ℕ) → Walk st q → closing st (q ++ rest) ≡ Some (length q)
closing_walk st q rest (last _ c v a) = λ i. closes (v i) (a i) (closing (a i) rest)
closing_walk st q rest (step _ c p v e w) =
    (λ i. closes (v i) (after st c) (closing (after st c) (p ++ rest))) ∙ closes_on (after st c) _ e ∙ ap one_more (closing_walk (after st c) p rest w)

accepts_walk : (st : State) (q rest : List ℕ) → Walk st q → accepts st (q ++ rest) ≡ accepts Ground rest
accepts_walk st q rest (last _ c v a) = λ i. goes (v i) (accepts (a i) rest)
accepts_walk st q rest (step _ c p v e w) = (λ i. goes (v i) (accepts (after st c) (p ++ rest))) ∙ accepts_walk (after st c) p rest w

letters_walk : (st : State) (q rest : List ℕ) → Walk st q → letters st (q ++ rest) ≡ letters Ground rest
letters_walk st q rest (last _ c v a) = λ i. kept (v i) c (letters (a i) rest)
letters_walk st q rest (step _ c p v e w) = (λ i. kept (v i) c (letters (after st c) (p ++ rest))) ∙ letters_walk (after st c) p rest w

-- ---- the length of the sequence at the head of a list
record Before (r : Option ℕ) (n : ℕ) : Type 0 where
  less : ℕ
  was : r ≡ Some less
  is : suc less ≡ n

before : (r : Option ℕ) (n : ℕ) → one_more r ≡ Some n → Before r n
before None n e = absurd (none-some _ e)
before (Some m) n e = record { less = m; was = refl; is = cc }

record Walked (st : State) (s : List ℕ) (n : ℕ) : Type 0 where
  within : n ≤ length s
  walk : Walk st (take n s)

walked_one : (st : State) (c n : ℕ) (cs : List ℕ) → verdict st c ≡ Some Colour → after st c ≡ Ground → Some 1 ≡ Some n → Walked st (c ∷ cs) n
walked_one st c n cs v a e =
    let one : 1 ≡ n = cc in
    subst (Walked st (c ∷ cs)) one (record { within = omega arith; walk = last st c v a })

walked_more : (st : State) (c n : ℕ) (cs : List ℕ) → verdict st c ≡ Some Colour → ended (after st c) ≡ false → ((m : ℕ) → closing (after st c) cs ≡ Some m → Walked (after st c) cs m)
    → one_more (closing (after st c) cs) ≡ Some n → Walked st (c ∷ cs) n
walked_more st c n cs v e on f =
    let b = before (closing (after st c) cs) n f in
    let w = on b.less b.was in
    subst (Walked st (c ∷ cs)) b.is (record { within = omega (arith, w.within); walk = step st c (take b.less cs) v e w.walk })

-- by the verdict and the state after the code
walked_by : (st : State) (c n : ℕ) (cs : List ℕ) (v : Option Verdict) (a : State) → verdict st c ≡ v → after st c ≡ a → ((m : ℕ) → closing (after st c) cs ≡ Some m → Walked (after st c) cs m)
    → closes v a (closing (after st c) cs) ≡ Some n → Walked st (c ∷ cs) n
walked_by st c n cs (Some Plain) a p q on f = absurd (none-some _ f)
walked_by st c n cs None a p q on f = absurd (none-some _ f)
walked_by st c n cs (Some Colour) Ground p q on f = walked_one st c n cs p q f
walked_by st c n cs (Some Colour) Escaped p q on f = walked_more st c n cs p (ap ended q) on f
walked_by st c n cs (Some Colour) Parameters p q on f = walked_more st c n cs p (ap ended q) on f
walked_by st c n cs (Some Colour) Intermediates p q on f = walked_more st c n cs p (ap ended q) on f

walked : (s : List ℕ) (st : State) (n : ℕ) → closing st s ≡ Some n → Walked st s n
walked [] st n e = absurd (none-some _ e)
walked (c ∷ cs) st n e = walked_by st c n cs (verdict st c) (after st c) refl refl (walked cs (after st c)) e

-- the reader closes a sequence after n bytes exactly where the grammar has one
pub heads : (s : List ℕ) (n : ℕ) → closing Ground s ≡ Some n → Heads s n
heads s n e = let w = walked s Ground n e in record { within = w.within; sequence = left Ground (take n s) w.walk }

pub closes_head : (s : List ℕ) (n : ℕ) → Heads s n → closing Ground s ≡ Some n
closes_head s n h =
    ap (closing Ground) (sym (take-append-drop n s)) ∙ closing_walk Ground (take n s) (drop n s) (walk (take n s) h.sequence) ∙ ap Some (simp length-take (omega (arith, h.within)))

-- ---- text
record Rest (st : State) (cs xs : List ℕ) : Type 0 where
  part : List ℕ
  after_it : List ℕ
  walk : Walk st part
  whole : cs ≡ part ++ after_it
  clean : Clean after_it xs

-- between sequences the rest is text; inside one, its end comes first
abbrev Waits : State → List ℕ → List ℕ → Type 0
Waits Ground cs xs = Clean cs xs
Waits Escaped cs xs = Rest Escaped cs xs
Waits Parameters cs xs = Rest Parameters cs xs
Waits Intermediates cs xs = Rest Intermediates cs xs

only_ground : (st : State) (c : ℕ) → verdict st c ≡ Some Plain → (st ≡ Ground) × (shown c ≡ true) × (after st c ≡ Ground)
only_ground Ground c v = (refl, grind (arith, nat_tests), grind (arith, nat_tests))
only_ground Escaped c v = absurd (grind (arith, nat_tests))
only_ground Parameters c v = absurd (grind (arith, nat_tests))
only_ground Intermediates c v = absurd (grind (arith, nat_tests))

-- one part of a sequence more
extended : (st : State) (c : ℕ) (cs xs : List ℕ) (a : State) → verdict st c ≡ Some Colour → after st c ≡ a → ended a ≡ false → Rest a cs xs → Rest st (c ∷ cs) xs
extended st c cs xs a v q e r = record {
  part = c ∷ r.part;
  after_it = r.after_it;
  walk = step st c r.part v (ap ended q ∙ e) (subst (λ s. Walk s r.part) (sym q) r.walk);
  whole = ap (λ l. c ∷ l) r.whole;
  clean = r.clean;
}

rest_more : (st : State) (c : ℕ) (cs xs : List ℕ) (a : State) → verdict st c ≡ Some Colour → after st c ≡ a → Waits a cs xs → Rest st (c ∷ cs) xs
rest_more st c cs xs Ground v q w = record { part = c ∷ []; after_it = cs; walk = last st c v q; whole = refl; clean = w }
rest_more st c cs xs Escaped v q w = extended st c cs xs Escaped v q refl w
rest_more st c cs xs Parameters v q w = extended st c cs xs Parameters v q refl w
rest_more st c cs xs Intermediates v q w = extended st c cs xs Intermediates v q refl w

at_ground : (cs xs : List ℕ) → Rest Ground cs xs → Clean cs xs
at_ground cs xs r = subst (λ l. Clean l xs) (sym r.whole) (colour r.part r.after_it xs (left Ground r.part r.walk) r.clean)

waits_from : (st : State) (cs xs : List ℕ) → Rest st cs xs → Waits st cs xs
waits_from Ground cs xs r = at_ground cs xs r
waits_from Escaped cs xs r = r
waits_from Parameters cs xs r = r
waits_from Intermediates cs xs r = r

meant_by : (st : State) (c : ℕ) (cs : List ℕ) (v : Option Verdict) → verdict st c ≡ v → (accepts (after st c) cs ≡ true → Waits (after st c) cs (letters (after st c) cs))
    → goes v (accepts (after st c) cs) ≡ true → Waits st (c ∷ cs) (kept v c (letters (after st c) cs))
meant_by st c cs (Some Plain) p on e =
    let k = only_ground st c p in
    subst (λ s. Waits s (c ∷ cs) (c ∷ letters (after st c) cs)) (sym k.0)
    (char c cs (letters (after st c) cs) k.1 (subst (λ s. Waits s cs (letters (after st c) cs)) k.2 (on e)))
meant_by st c cs (Some Colour) p on e = waits_from st (c ∷ cs) (letters (after st c) cs) (rest_more st c cs (letters (after st c) cs) (after st c) p refl (on e))
meant_by st c cs None p on e = absurd (false≢true e)

meant : (cs : List ℕ) (st : State) → accepts st cs ≡ true → Waits st cs (letters st cs)
meant [] Ground e = none
meant [] Escaped e = absurd (false≢true e)
meant [] Parameters e = absurd (false≢true e)
meant [] Intermediates e = absurd (false≢true e)
meant (c ∷ cs) st e = meant_by st c cs (verdict st c) refl (meant cs (after st c)) e

-- what the reader accepts is text, with the characters that it lets through
pub clean : (cs : List ℕ) → accepts Ground cs ≡ true → Clean cs (letters Ground cs)
clean cs e = meant cs Ground e

plain_step : (c : ℕ) → shown c ≡ true → (verdict Ground c ≡ Some Plain) × (after Ground c ≡ Ground)
plain_step c h = (grind (arith, nat_tests), grind (arith, nat_tests))

-- and it accepts all text
pub accepted : (cs xs : List ℕ) → Clean cs xs → (accepts Ground cs ≡ true) × (letters Ground cs ≡ xs)
accepted cs xs none = (refl, refl)
accepted cs xs (char c ds ys h k) =
    let on = accepted ds ys k in
    let p = plain_step c h in
    ((λ i. goes (p.0 i) (accepts (p.1 i) ds)) ∙ on.0, (λ i. kept (p.0 i) c (letters (p.1 i) ds)) ∙ ap (λ l. c ∷ l) on.1)
accepted cs xs (colour q ds ys h k) =
    let on = accepted ds ys k in
    let w = walk q h in
    (accepts_walk Ground q ds w ∙ on.0, letters_walk Ground q ds w ∙ on.1)
