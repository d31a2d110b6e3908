-- One append after another.
use Rattle.std.proofs.Common.{◌≡◌, ℕ, true, List, ◌++◌, is_err, Ok, Err, Result, sym, ap, ◌∙◌, append_assoc}
use Rattle.std.proofs.lemmas.Result.{MatchResult-from_err}
use Rattle.trace.specs.Appends.{Front, Appends}

pub front_more : {xs s t : List ℕ} (ys : List ℕ) → Front xs s t → Front (xs ++ ys) s t
front_more ys f = record { done = f.done; left = f.left ++ ys; whole = ap (λ l. l ++ ys) f.whole ∙ append_assoc f.done f.left ys; put = f.put }

pub front_then : {ys s t v : List ℕ} (xs : List ℕ) → t ≡ s ++ xs → Front ys t v → Front (xs ++ ys) s v
front_then {s = s} xs e f = record { done = xs ++ f.done; left = f.left; whole = ap (λ l. xs ++ l) f.whole ∙ sym (append_assoc xs f.done f.left); put = f.put ∙ ap (λ l. l ++ f.done) e ∙ append_assoc s xs f.done }

-- all of xs, and then ys
pub and_then : {T E : Type 0} {t : List ℕ} (xs ys s v : List ℕ) (r : Result T E) → t ≡ s ++ xs → Appends ys t r v → Appends (xs ++ ys) s r v
and_then xs ys s v (Ok u) e h = h ∙ ap (λ l. l ++ ys) e ∙ append_assoc s xs ys
and_then xs ys s v (Err u) e h = front_then xs e h

-- the exit of a `?` in the middle
pub stopped_at : {T E : Type 0} {bs s t : List ℕ} (r : Result T E) → is_err r ≡ true → Front bs s t → Appends bs s r t
stopped_at {bs = bs} {s} {t} r e f = MatchResult-from_err r (λ _. t ≡ s ++ bs) (λ _. Front bs s t) e (λ _. f)
