-- A whole script, line by line.
use Rattle.std.proofs.Common.{◌≡◌, ℕ, suc, ◌+◌, ◌<◌, ◌≤◌, ◌⊎◌, List, [], ◌∷◌, ◌++◌, length, sym, refl, ap, ◌∙◌, subst, inl, inr, append_assoc, append-nil, arith, length-append}
use Rattle.trace.specs.declared.answer.Answer.{Answer}
use Rattle.trace.specs.declared.answer.Answer.TheVariants as answers
use Rattle.script.specs.Scripts.{Line, Skipped}
use Rattle.trace.specs.Traces.{traced}
use Rattle.runner.specs.declared.stop.Halt.{Halt}
use Rattle.runner.specs.declared.stop.Halt.TheVariants as halts
use Rattle.runner.specs.Answers.{State, nothing}
use Rattle.runner.specs.declared.summary.Summary.{Summary}
use Rattle.runner.specs.Runs.{Played, none, refusals, counted, Ending, complete, faulty, missing, below, Replayed, ended, skip, play, refuse, lack, Ran}
use Rattle.runner.specs.Stops.{Halted, stopped}

-- a line is shorter than its script
pub shorter : (script line rest : List ℕ) → Line script line rest → length rest < length script
shorter script line rest h = by h.whole
  where
    by : (script ≡ line ++ 10 ∷ rest) ⊎ ((script ≡ line) × (rest ≡ [])) → length rest < length script
    by (inl e) = omega (arith, ap length e, length-append line (10 ∷ rest))
    by (inr e) = omega (arith, ap length e.1, h.some)

-- the ending of what is left, n lines on
abbrev shift : ℕ → Ending → Ending
shift n complete = complete
shift n (faulty m f) = faulty (n + m) f
shift n (missing m) = missing (n + m)

shift_none : (e : Ending) → shift 0 e ≡ e
shift_none complete = refl
shift_none (faulty m f) = ap (λ k. faulty k f) (let e : 0 + m ≡ m = omega arith in e)
shift_none (missing m) = ap missing (let e : 0 + m ≡ m = omega arith in e)

shift_more : (n : ℕ) (e : Ending) → shift n (below e) ≡ shift (n + 1) e
shift_more n complete = refl
shift_more n (faulty m f) = ap (λ k. faulty k f) (let e : n + suc m ≡ n + 1 + m = omega arith in e)
shift_more n (missing m) = ap missing (let e : n + suc m ≡ n + 1 + m = omega arith in e)

abbrev plus : Summary → Summary → Summary
plus j k = record { commands = j.commands + k.commands; refused = j.refused + k.refused }

plus_none : (k : Summary) → plus none k ≡ k
plus_none k = let c : 0 + k.commands ≡ k.commands = omega arith in let r : 0 + k.refused ≡ k.refused = omega arith in λ i. record { commands = c i; refused = r i }

none_plus : (k : Summary) → plus k none ≡ k
none_plus k = let c : k.commands + 0 ≡ k.commands = omega arith in let r : k.refused + 0 ≡ k.refused = omega arith in λ i. record { commands = c i; refused = r i }

plus_more : (j k : Summary) (a : Answer) → plus j (counted a k) ≡ plus (counted a j) k
plus_more j k a =
    let c : j.commands + suc k.commands ≡ suc j.commands + k.commands = omega arith in
    let r : j.refused + (refusals a + k.refused) ≡ refusals a + j.refused + k.refused = omega arith in
    λ i. record { commands = c i; refused = r i }

-- what is left runs on as the whole does
pub record Sofar (script before : List ℕ) (s : State) (rest now : List ℕ) (n : ℕ) (j : Summary) : Type 0 where
  pub done : List ℕ
  pub put : now ≡ before ++ done
  pub on : (trace : List ℕ) (k : Summary) (e : Ending) → Replayed s rest trace k e → Replayed nothing script (done ++ trace) (plus j k) (shift n e)
  pub room : n + length rest ≤ length script
  pub few : (j.commands ≤ n) × (j.refused ≤ n)

few_refusals : (a : Answer) → refusals a ≤ 1
few_refusals answers.Ok = omega arith
few_refusals (answers.Refused n at) = omega arith
few_refusals (answers.Metrics r c) = omega arith
few_refusals answers.Yes = omega arith
few_refusals answers.No = omega arith
few_refusals (answers.Position n) = omega arith

module _ (script before : List ℕ) (s : State) (rest now : List ℕ) (n : ℕ) (j : Summary) (line tail : List ℕ) (h : Sofar script before s rest now n j) (l : Line rest line tail) where
  pub skipped : Skipped line → Sofar script before s tail now (n + 1) j
  skipped k = record {
    done = h.done;
    put = h.put;
    on = λ trace t e r. subst (Replayed nothing script (h.done ++ trace) (plus j t)) (shift_more n e) (h.on trace t (below e) (skip l k r));
    room = omega (arith, h.room, shorter rest line tail l);
    few = (omega (arith, h.few), omega (arith, h.few));
  }

  pub answered : (Skipped line → ⊥) → (a : Answer) (t : State) (next : List ℕ) (i : Summary) → Played s line a t → next ≡ now ++ traced line a → i ≡ counted a j → Sofar script before t tail next (n + 1) i
  answered k a t next i p e c = subst (Sofar script before t tail next (n + 1)) (sym c) (record {
    done = h.done ++ traced line a;
    put = e ∙ ap (λ x. x ++ traced line a) h.put ∙ append_assoc before h.done (traced line a);
    on = λ trace y e r.
        subst (λ x. Replayed nothing script x (plus (counted a j) y) (shift (n + 1) e)) (sym (append_assoc h.done (traced line a) trace))
        (subst (λ x. Replayed nothing script (h.done ++ (traced line a ++ trace)) x (shift (n + 1) e)) (plus_more j y a)
        (subst (Replayed nothing script (h.done ++ (traced line a ++ trace)) (plus j (counted a y))) (shift_more n e) (h.on (traced line a ++ trace) (counted a y) (below e) (play l k p r))));
    room = omega (arith, h.room, shorter rest line tail l);
    few = (omega (arith, h.few), omega (arith, h.few, few_refusals a));
  })

  ends : (e : Ending) (next : List ℕ) → next ≡ now → Replayed s rest [] none e → Ran script before next (plus j none) (shift n e)
  ends e next p r = record { trace = h.done ++ []; replayed = h.on [] none e r; put = p ∙ h.put ∙ ap (λ x. before ++ x) (sym (append-nil h.done)) }

  pub halts_at : (Skipped line → ⊥) → (e : Halt) (t : State) (next : List ℕ) → Halted s line t now next e → stopped script before next (n + 1) e
  halts_at k (halts.Fault f) t next (r, _, p) = (plus j none, ends (faulty 1 f) next p (refuse l k r))
  halts_at k halts.Missing t next (r, _, p) = (plus j none, ends (missing 1) next p (lack l k r))
  halts_at k halts.Memory t next g = record { more = h.done ++ g.more; put = g.put ∙ ap (λ x. x ++ g.more) h.put ∙ append_assoc before h.done g.more }

pub finished : (script before : List ℕ) (s : State) (rest now : List ℕ) (n : ℕ) (j : Summary) → Sofar script before s rest now n j → length rest ≡ 0 → Ran script before now j complete
finished script before s [] now n j h e = record {
  trace = h.done ++ [];
  replayed = subst (λ x. Replayed nothing script (h.done ++ []) x complete) (none_plus j) (h.on [] none complete (ended s));
  put = h.put ∙ ap (λ x. before ++ x) (sym (append-nil h.done));
}
finished script before s (b ∷ rest) now n j h e = absurd (omega arith)
