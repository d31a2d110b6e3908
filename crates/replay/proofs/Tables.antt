-- Words and tables.
use Rattle.std.proofs.Common.{◌≡◌, ℕ, true, false, List, [], ◌∷◌, Some, None, Ok, codes, Option, sym, refl, ap, ◌∙◌, ⊎_elim, arith, Bor}
use Rattle.std.specs.List.{AllByRecursion, find}
use Rattle.std.specs.Option.{ok_or, option_map}
use Rattle.std.specs.Str.{bytes_eq}
use Rattle.std.proofs.lemmas.Slice.Eq.{bytes_eq-Decides}
use Rattle.std.proofs.lemmas.Bool.{cases_Bool}
use Rattle.replay.specs.declared.command.Fault.{Fault}
use Rattle.replay.specs.declared.command.Fault.TheVariants as faults
use Rattle.replay.specs.declared.command.Rule.{Rule}
use Rattle.replay.specs.declared.command.Rule.TheVariants.{Plain, House}
use Rattle.replay.specs.Orders.{named}
use Rattle.replay.specs.declared.words.Verb.{Verb}
use Rattle.replay.specs.declared.words.Verb.TheVariants.{Measure, Admit, Limiter, Position}
use Rattle.replay.specs.declared.words.Choice.{Choice}
use Rattle.replay.specs.declared.words.Choice.TheVariants.{Allow, Reset, Set, Get}
use Rattle.replay.specs.Words.{pick, rows, verbs, verb, choices, choice, ReadsRule}

pub other_word : (w x : List ℕ) → (w ≡ x → ⊥) → bytes_eq w x ≡ false
other_word w x ne = ⊎_elim (λ e. absurd (ne ((bytes_eq-Decides w x).0 e))) (λ e. e) (cases_Bool (bytes_eq w x))

pub pick_find : {X : Type 0} (w : List ℕ) (table : List (Bor (List ℕ) × X)) → option_map (λ row. row.1) (find (λ row. bytes_eq w row.0.now) table) ≡ pick w (rows table)
pick_find w [] = refl
pick_find w (row ∷ table) = let more = pick_find w table in ⊎_elim (λ (t : bytes_eq w row.0.now ≡ true). simp t) (λ (t : bytes_eq w row.0.now ≡ false). simp t more) (cases_Bool (bytes_eq w row.0.now))

-- a word that stands in no row
pub pick_none : {X : Type 0} (w : List ℕ) (rows : List (List ℕ × X)) → AllByRecursion (λ (row : List ℕ × X). w ≡ row.0 → ⊥) rows → pick w rows ≡ None
pick_none w [] h = refl
pick_none w (row ∷ rows) h = let t = other_word w row.0 h.0 in simp t (pick_none w rows h.1)

-- a word that stands in one
pick_some : {X : Type 0} (name : X → List ℕ) (w : List ℕ) (rows : List (List ℕ × X)) (x : X) → AllByRecursion (λ (row : List ℕ × X). row.0 ≡ name row.1) rows → pick w rows ≡ Some x → w ≡ name x
pick_some name w [] x h e = cc
pick_some name w (row ∷ rows) x h e =
    ⊎_elim (λ (t : bytes_eq w row.0 ≡ true). let same : row.1 ≡ x = grind (arith, t, e) in (bytes_eq-Decides w row.0).0 t ∙ h.0 ∙ ap name same)
    (λ (t : bytes_eq w row.0 ≡ false). pick_some name w rows x h.1 (simp t at e))
    (cases_Bool (bytes_eq w row.0))

abbrev pub verb_word : Verb → List ℕ
verb_word Measure = codes "measure"
verb_word Admit = codes "admit"
verb_word Limiter = codes "limiter"
verb_word Position = codes "position"

abbrev pub choice_word : Choice → List ℕ
choice_word Allow = codes "allow"
choice_word Reset = codes "reset"
choice_word Set = codes "set"
choice_word Get = codes "get"

pub verb_is : (w : List ℕ) (v : Verb) → verb w ≡ Ok v → w ≡ verb_word v
verb_is w v e = pick_some verb_word w verbs v (refl, (refl, (refl, (refl, tt)))) (some_of (pick w verbs) _ e)
  where
    some_of : (o : Option Verb) (f : Fault) → ok_or o f ≡ Ok v → o ≡ Some v
    some_of None f e = cc
    some_of (Some u) f e = cc

pub choice_is : (w : List ℕ) (k : Choice) → choice w ≡ Some k → w ≡ choice_word k
choice_is w k e = pick_some choice_word w choices k (refl, (refl, (refl, (refl, tt)))) e

abbrev rules_by_name : List (List ℕ × Rule)
rules_by_name = (codes "plain", Plain) ∷ (codes "house", House) ∷ []

-- a rule that is looked up
pub reads_rule : (w : List ℕ) (o : Option Rule) → o ≡ pick w rules_by_name → ReadsRule w (ok_or o faults.Rule)
reads_rule w None e = (refl, λ u d. absurd (other u d))
  where
    other : (u : Rule) → w ≡ named u → ⊥
    other Plain d = let f : None ≡ Some Plain = e ∙ simp d in cc
    other House d = let f : None ≡ Some House = e ∙ simp d in cc
reads_rule w (Some u) e = pick_some named w rules_by_name u (refl, (refl, tt)) (sym e)
