-- One word taken, and what follows from what was taken.
use Rattle.std.proofs.Common.{◌≡◌, ℕ, ◌<◌, Bool, true, false, List, [], ◌∷◌, Bor, Decides, refl, IsErrAnd, Some, None, Ok, Err, Option, Result, sym, ap, ◌∙◌, subst, arith, MatchOption, MatchResult}
use Rattle.std.specs.Bool.{then_some}
use Rattle.std.specs.Option.{ok_or, option_map, unwrap_or}
use Rattle.std.specs.Result.{OkIff, result_map_both}
use Rattle.std.proofs.lemmas.Bool.{false≢true}
use Rattle.script.specs.Escapes.{WellFormed}
use Rattle.std.proofs.lemmas.Result.{err_from_is_err_and, OkIff-at_ok, OkIff-at_err}
use Rattle.replay.specs.declared.command.Fault.{Fault}
use Rattle.replay.specs.declared.command.Fault.TheVariants.{Words, Rate}
use Rattle.replay.specs.declared.command.Fault.TheVariants as faults
use Rattle.replay.specs.declared.command.Rule.{Rule}
use Rattle.script.specs.Numbers.{Number, NoNumber}
use Rattle.replay.specs.Words.{ReadsRule}
use Rattle.replay.specs.Arguments.{Took, Halts, TakesWord, no_word, wrong_word}
use Rattle.script.specs.Cuts.{Cut}
use Rattle.replay.specs.Faults.{Wrong, no_number, no_rate, above, no_rule, Stops, missing, wrong, further, escape}
use Rattle.replay.specs.Forms.{Kind, a_number, a_rate, a_rule, a_text, kind, after}
use Rattle.replay.specs.Grammar.{Spelled, as_number, as_rate, as_rule, Phrase, next, raw}
use Rattle.replay.specs.Orders.{Part, number, rate, rule}

abbrev Taken : Option (List ℕ) → List ℕ → Option (List ℕ) → Type 0
Taken rest w left = (line : List ℕ) × (rest ≡ Some line) × Cut 32 line w left

pub took : {p : Part} {rest left : Option (List ℕ)} {w : List ℕ} → Taken rest w left → Spelled p w → Took p rest left
took {p} t h = record { line = t.0; from = t.1; spelled = subst (λ w. Spelled p w) t.2.front_is h; to = t.2.rest_is }

pub halted : {k : Kind} {rest left : Option (List ℕ)} {w : List ℕ} {f : Fault} → Taken rest w left → Wrong k w f → Halts k rest f
halted {k} {f = f} t h = subst (λ r. Halts k r f) (sym t.1) (wrong_word (subst (λ w. Wrong k w f) t.2.front_is h))

-- where nothing is left
pub halted_end : {k : Kind} {rest left : Option (List ℕ)} {f : Fault} → (k ≡ a_text → ⊥) → (f ≡ Words) × (rest ≡ None) × (left ≡ rest) → Halts k rest f
halted_end {k} h e = simp (e.0, e.1) (no_word h)

pub took_number : {rest left : Option (List ℕ)} {w : List ℕ} (o : Option ℕ) → Taken rest w left → MatchOption o (NoNumber w) (λ n. Number w n) → MatchResult (ok_or o faults.Number) (λ n. Took (number n) rest left) (λ f. Halts a_number rest f)
took_number None t h = halted t (no_number h)
took_number (Some n) t h = took t (as_number h)

pub took_rule : {rest left : Option (List ℕ)} {w : List ℕ} (r : Result Rule Fault) → Taken rest w left → ReadsRule w r → MatchResult r (λ u. Took (rule u) rest left) (λ f. Halts a_rule rest f)
took_rule (Ok u) t h = took t (as_rule h)
took_rule {rest} (Err f) t h = subst (λ f. Halts a_rule rest f) (sym h.0) (halted t (no_rule h.1))

pub took_rate : {n : ℕ} {rest left : Option (List ℕ)} → Took (number n) rest left → n < 256 → Took (rate n) rest left
took_rate {n} t h = record { line = t.line; from = t.from; spelled = again t.spelled; to = t.to }
  where
    again : {w : List ℕ} → Spelled (number n) w → Spelled (rate n) w
    again (as_number m) = as_rate m (omega arith)

pub above_rate : {n : ℕ} {rest left : Option (List ℕ)} → Took (number n) rest left → (n < 256 → ⊥) → Halts a_rate rest Rate
above_rate {n} t h = subst (λ r. Halts a_rate r Rate) (sym t.from) (wrong_word (again t.spelled))
  where
    again : {w : List ℕ} → Spelled (number n) w → Wrong a_rate w Rate
    again (as_number m) = above m (omega arith)

pub rate_cases : {n : ℕ} {rest left : Option (List ℕ)} {E : Type 0} (r : Result ℕ E) → Took (number n) rest left → OkIff r (n < 256) n
    → MatchResult (result_map_both (λ m. m) (λ _. Rate) r) (λ m. Took (rate m) rest left) (λ f. Halts a_rate rest f)
rate_cases {n} {rest} {left} {E} (Ok m) t h = let p = OkIff-at_ok {E = E} (Ok m) (n < 256) n m h refl in subst (λ k. Took (rate k) rest left) (sym p.1) (took_rate t p.0)
rate_cases {n} (Err e) t h = above_rate t (OkIff-at_err (Err e) (n < 256) n e h refl)

pub no_rate_there : {rest : Option (List ℕ)} {f : Fault} → Halts a_number rest f → Halts a_rate rest f
no_rate_there (no_word h) = no_word (λ e. cc)
no_rate_there (wrong_word (no_number h)) = wrong_word (no_rate h)

pub on : {p : Part} {ps : List Part} {rest left : Option (List ℕ)} → Took p rest left → Phrase ps left → Phrase (p ∷ ps) rest
on {p} {ps} t h = subst (λ r. Phrase (p ∷ ps) r) (sym t.from) (next t.spelled (subst (λ l. Phrase ps l) t.to h))

pub stops_on : {p : Part} {ks : List Kind} {rest left : Option (List ℕ)} {f : Fault} → Took p rest left → Stops ks left f → Stops (kind p ∷ ks) rest f
stops_on {p} {ks} {f = f} t h = subst (λ r. Stops (kind p ∷ ks) r f) (sym t.from) (further t.spelled (subst (λ l. Stops ks l f) t.to h))

pub stops_here : {k : Kind} {ks : List Kind} {rest : Option (List ℕ)} {f : Fault} → Halts k rest f → Stops (k ∷ ks) rest f
stops_here (no_word h) = missing h
stops_here (wrong_word h) = wrong h

-- the exit of a `?` whose error is passed on as it is
pub passed : {T E : Type 0} (r : Result T E) (P : T → Type 0) (Q : E → Type 0) (x : E) → IsErrAnd r (λ y. y ≡ x) → Q x → MatchResult r P Q
passed r P Q x e h = let p = err_from_is_err_and r e in rw (p.1, p.2) h

-- all that is left, as a text
pub raw_is : (o : Option (Bor (List ℕ))) (d : Bor (List ℕ)) → d.now ≡ [] → (unwrap_or o d).now ≡ raw (option_map (λ x. x.now) o)
raw_is None d e = e
raw_is (Some x) d e = refl

pub took_text : (rest : Option (List ℕ)) (b : Bool) (t : Bor (List ℕ)) → Decides b (WellFormed t.now) → t.now ≡ raw rest
    → MatchResult (ok_or (then_some b t) faults.Escape) (λ t. (t.now ≡ raw rest) × WellFormed (raw rest)) (λ f. Stops (a_text ∷ []) rest f)
took_text rest true t d e = (e, subst WellFormed e (d.0 refl))
took_text rest false t d e = escape (λ w. false≢true (d.1 (subst WellFormed (sym e) w)))

-- a word that is taken, or none, leaves what follows it
pub skipped : (rest left : Option (List ℕ)) (r : Result (Bor (List ℕ)) Fault) → TakesWord rest r left → left ≡ after rest
skipped rest left (Ok w) (line, from, cut) = simp from cut.rest_is
skipped rest left (Err f) (fault, none, same) = same ∙ none ∙ ap after (sym none)
