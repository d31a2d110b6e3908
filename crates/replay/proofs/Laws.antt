-- A line spells one order at most, and none where it is faulty.
use Rattle.std.proofs.Common.{◌≡◌, ℕ, cond, List, [], ◌∷◌, get_or, drop, Some, None, Ok, codes, Option, Result, sym, refl, ap, ◌∙◌, subst, arith}
use Rattle.std.specs.Str.Parse.{digits_value}
use Rattle.std.specs.Str.{bytes_eq}
use Rattle.replay.specs.declared.command.Fault.{Fault}
use Rattle.replay.specs.declared.command.Rule.{Rule}
use Rattle.replay.specs.declared.command.Rule.TheVariants.{Plain, House}
use Rattle.script.specs.Cuts.{before, behind}
use Rattle.replay.specs.Faults.{Wrong, no_number, no_rate, above, no_rule, Stops, missing, surplus, wrong, further, escape, Faulty, no_command, argument}
use Rattle.replay.specs.Forms.{Kind, a_word, a_number, a_rate, a_rule, a_text, kind, kinds, Form, measure_form, admit_form, limiter_form, limiter_allow_form, position_form, position_allow_form, position_reset_form, position_set_form, position_get_form, form, opening, arguments, head, due}
use Rattle.replay.specs.Grammar.{Spelled, as_is, as_number, as_rate, as_rule, Phrase, end, tail, next, Spells}
use Rattle.script.specs.Numbers.{Number}
use Rattle.replay.specs.Orders.{Order, measure, admit, limiter, limiter_allow, position, position_allow, position_reset, position_set, position_get, Part, word, number, rate, rule, text, parts, named}
use Rattle.replay.specs.Words.{choice, choices}
use Rattle.script.proofs.Bytes.{meant_one}
use Rattle.replay.proofs.Tables.{pick_none}

-- a number is none of the words
number_apart : {w : List ℕ} {n : ℕ} → Number w n → (x : List ℕ) → (Number x n → ⊥) → w ≡ x → ⊥
number_apart {n = n} h x no_x e = no_x (subst (λ l. Number l n) e h)

pub number_choice : {w : List ℕ} {n : ℕ} → Number w n → choice w ≡ None
number_choice {w} {n} h =
    pick_none w choices
    (number_apart h (codes "allow") (λ m. omega (arith, m.digits.1.0)), (number_apart h (codes "reset") (λ m. omega (arith, m.digits.1.0)), (number_apart h (codes "set") (λ m. omega (arith, m.digits.1.0)), (number_apart h (codes "get") (λ m. omega (arith, m.digits.1.0)), tt))))

-- the first words of a line tell the form of what it spells
pub due_is : (o : Order) {line : List ℕ} → Spells line o → due line ≡ Ok (form o)
due_is (measure w u t) (next (as_is e) p) = simp e
due_is (admit t) (next (as_is e) p) = simp e
due_is (limiter r s) {line} (next (as_is e) p) = simp (e, second p)
  where
    second : {rest : Option (List ℕ)} → Phrase (rate r ∷ number s ∷ []) rest → choice (head rest) ≡ None
    second (next (as_rate h b) q) = number_choice h
due_is (limiter_allow n) (next (as_is e) p) = simp (e, second p)
  where
    second : {rest : Option (List ℕ)} → Phrase (word (codes "allow") ∷ number n ∷ []) rest → head rest ≡ codes "allow"
    second (next (as_is h) q) = h
due_is (position n) (next (as_is e) p) = simp (e, second p)
  where
    second : {rest : Option (List ℕ)} → Phrase (number n ∷ []) rest → choice (head rest) ≡ None
    second (next (as_number h) q) = number_choice h
due_is (position_allow n) (next (as_is e) p) = simp (e, second p)
  where
    second : {rest : Option (List ℕ)} → Phrase (word (codes "allow") ∷ number n ∷ []) rest → head rest ≡ codes "allow"
    second (next (as_is h) q) = h
due_is (position_reset n) (next (as_is e) p) = simp (e, second p)
  where
    second : {rest : Option (List ℕ)} → Phrase (word (codes "reset") ∷ number n ∷ []) rest → head rest ≡ codes "reset"
    second (next (as_is h) q) = h
due_is (position_set n) (next (as_is e) p) = simp (e, second p)
  where
    second : {rest : Option (List ℕ)} → Phrase (word (codes "set") ∷ number n ∷ []) rest → head rest ≡ codes "set"
    second (next (as_is h) q) = h
due_is position_get (next (as_is e) p) = simp (e, second p)
  where
    second : {rest : Option (List ℕ)} → Phrase (word (codes "get") ∷ []) rest → head rest ≡ codes "get"
    second (next (as_is h) q) = h

-- what a word spells, as a part of a kind, computed
abbrev part_of : Kind → List ℕ → Part
part_of (a_word x) w = word x
part_of a_number w = number (digits_value 10 w)
part_of a_rate w = rate (digits_value 10 w)
part_of a_rule w = rule (cond (bytes_eq w (codes "plain")) Plain House)
part_of a_text w = text []

spelled_is : {p : Part} {w : List ℕ} → Spelled p w → p ≡ part_of (kind p) w
spelled_is (as_is e) = refl
spelled_is (as_number h) = ap number h.is
spelled_is (as_rate h b) = ap rate h.is
spelled_is {w = w} (as_rule {u} e) = elim u as (λ v. w ≡ named v → rule v ≡ part_of a_rule w) [ Plain ↦ λ d. simp d | House ↦ λ d. simp d ] e

spelled_one : {p q : Part} {w : List ℕ} → Spelled p w → Spelled q w → kind p ≡ kind q → p ≡ q
spelled_one {w = w} s t e = spelled_is s ∙ ap (λ k. part_of k w) e ∙ sym (spelled_is t)

-- a text is no word
no_text_word : {p : Part} {w : List ℕ} → Spelled p w → kind p ≡ a_text → ⊥
no_text_word (as_is h) e = cc
no_text_word (as_number h) e = cc
no_text_word (as_rate h b) e = cc
no_text_word (as_rule h) e = cc

absurd_kinds : {A : Type 0} {k : Kind} {ks : List Kind} → [] ≡ k ∷ ks → A
absurd_kinds e = cc

head_kind : {j k : Kind} {js ks : List Kind} → j ∷ js ≡ k ∷ ks → j ≡ k
head_kind e = cc

rest_kinds : {j k : Kind} {js ks : List Kind} → j ∷ js ≡ k ∷ ks → js ≡ ks
rest_kinds e = cc

pub same_parts : {ps qs : List Part} {rest : Option (List ℕ)} → Phrase ps rest → Phrase qs rest → kinds ps ≡ kinds qs → ps ≡ qs
same_parts end end e = refl
same_parts end (tail m) e = absurd_kinds e
same_parts (tail m) end e = absurd_kinds (sym e)
same_parts (tail m) (tail n) e = ap (λ bs. text bs ∷ []) (meant_one m n)
same_parts (tail m) (next t q) e = absurd (no_text_word t (sym (head_kind e)))
same_parts (next s p) (tail n) e = absurd (no_text_word s (head_kind e))
same_parts (next s p) (next t q) e = λ i. spelled_one s t (head_kind e) i ∷ same_parts p q (rest_kinds e) i

wrong_spelled : {p : Part} {w : List ℕ} {f : Fault} → Spelled p w → Wrong (kind p) w f → ⊥
wrong_spelled (as_is e) x = elim x [ ]
wrong_spelled (as_number h) (no_number n) = n _ h
wrong_spelled (as_rate h b) (no_rate n) = n _ h
wrong_spelled (as_rate h b) (above m g) = omega (arith, h.is, m.is)
wrong_spelled (as_rule e) (no_rule n) = n _ e

wrong_text : {k : Kind} {w : List ℕ} {f : Fault} → Wrong k w f → k ≡ a_text → ⊥
wrong_text (no_number n) e = cc
wrong_text (no_rate n) e = cc
wrong_text (above m g) e = cc
wrong_text (no_rule n) e = cc

-- what fails at its kinds spells nothing of those kinds
pub stopped : {ks : List Kind} {ps : List Part} {rest : Option (List ℕ)} {f : Fault} → Stops ks rest f → Phrase ps rest → kinds ps ≡ ks → ⊥
stopped (missing h) end e = absurd_kinds e
stopped (missing h) (tail m) e = h (sym (head_kind e))
stopped surplus (tail m) e = absurd_kinds (sym e)
stopped surplus (next s p) e = absurd_kinds (sym e)
stopped (wrong w) (tail m) e = wrong_text w (sym (head_kind e))
stopped {f = f} (wrong {line = line} w) (next s p) e = wrong_spelled s (subst (λ k. Wrong k (before 32 line) f) (sym (head_kind e)) w)
stopped (further s st) (tail m) e = no_text_word s (sym (head_kind e))
stopped (further s st) (next t p) e = stopped st p (rest_kinds e)
stopped (escape h) end e = absurd_kinds e
stopped (escape h) (tail {bs} m) e = h (bs, m)
stopped (escape h) (next s p) e = no_text_word s (head_kind e)

-- an order, from its form and its parts
abbrev number_in : Part → ℕ
number_in (word w) = 0
number_in (number n) = n
number_in (rate n) = n
number_in (rule u) = 0
number_in (text t) = 0

abbrev rule_in : Part → Rule
rule_in (word w) = Plain
rule_in (number n) = Plain
rule_in (rate n) = Plain
rule_in (rule u) = u
rule_in (text t) = Plain

abbrev text_in : Part → List ℕ
text_in (word w) = []
text_in (number n) = []
text_in (rate n) = []
text_in (rule u) = []
text_in (text t) = t

abbrev rebuilt : Form → List Part → Order
rebuilt measure_form ps = measure (number_in (get_or ps 1 (word []))) (rule_in (get_or ps 2 (word []))) (text_in (get_or ps 3 (word [])))
rebuilt admit_form ps = admit (text_in (get_or ps 1 (word [])))
rebuilt limiter_form ps = limiter (number_in (get_or ps 1 (word []))) (number_in (get_or ps 2 (word [])))
rebuilt limiter_allow_form ps = limiter_allow (number_in (get_or ps 2 (word [])))
rebuilt position_form ps = position (number_in (get_or ps 1 (word [])))
rebuilt position_allow_form ps = position_allow (number_in (get_or ps 2 (word [])))
rebuilt position_reset_form ps = position_reset (number_in (get_or ps 2 (word [])))
rebuilt position_set_form ps = position_set (number_in (get_or ps 2 (word [])))
rebuilt position_get_form ps = position_get

-- what holds of each order's parts
pub record Parted (o : Order) : Type 0 where
  pub again : rebuilt (form o) (parts o) ≡ o
  pub opens : parts o ≡ word (opening (form o)) ∷ drop 1 (parts o)
  pub takes : kinds (drop 1 (parts o)) ≡ arguments (form o)

pub parted : (o : Order) → Parted o
parted (measure w u t) = record { again = refl; opens = refl; takes = refl }
parted (admit t) = record { again = refl; opens = refl; takes = refl }
parted (limiter r s) = record { again = refl; opens = refl; takes = refl }
parted (limiter_allow n) = record { again = refl; opens = refl; takes = refl }
parted (position n) = record { again = refl; opens = refl; takes = refl }
parted (position_allow n) = record { again = refl; opens = refl; takes = refl }
parted (position_reset n) = record { again = refl; opens = refl; takes = refl }
parted (position_set n) = record { again = refl; opens = refl; takes = refl }
parted position_get = record { again = refl; opens = refl; takes = refl }

kinds_of : (o : Order) → kinds (parts o) ≡ a_word (opening (form o)) ∷ arguments (form o)
kinds_of o = ap kinds (parted o).opens ∙ ap (λ ks. a_word (opening (form o)) ∷ ks) (parted o).takes

same_form : {f g : Form} → ◌≡◌ {A = Result Form Fault} (Ok f) (Ok g) → f ≡ g
same_form e = cc

pub unique : {line : List ℕ} (o p : Order) → Spells line o → Spells line p → o ≡ p
unique o p s t =
    let e : form o ≡ form p = same_form (sym (due_is o s) ∙ due_is p t) in
    let k : kinds (parts o) ≡ kinds (parts p) = kinds_of o ∙ ap (λ f. a_word (opening f) ∷ arguments f) e ∙ sym (kinds_of p) in
    let same = same_parts s t k in
    sym (parted o).again ∙ (λ i. rebuilt (e i) (same i)) ∙ (parted p).again

opened : {x : List ℕ} {ps : List Part} {line : List ℕ} → Phrase (word x ∷ ps) (Some line) → Phrase ps (behind 32 line)
opened (next s p) = p

pub faulty_spells : {line : List ℕ} {f : Fault} → Faulty line f → (o : Order) → Spells line o → ⊥
faulty_spells (no_command e) o s = let d = due_is o s in cc
faulty_spells {line} {f} (argument {fm = fm} e st) o s =
    let same : form o ≡ fm = same_form (sym (due_is o s) ∙ e) in
    stopped st (opened (subst (λ ps. Phrase ps (Some line)) (parted o).opens s)) ((parted o).takes ∙ ap arguments same)
