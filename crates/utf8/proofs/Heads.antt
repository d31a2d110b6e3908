-- From the first octets of a list to the list.
use Rattle.std.proofs.Common.{◌≡◌, ℕ, zero, suc, ◌+◌, ◌-◌, ◌<◌, ◌≤◌, ◌⊎◌, List, [], ◌∷◌, ◌++◌, length, get_or, take, drop, sym, refl, ap, ◌∙◌, subst, inl, inr, append-nil, add_comm, arith, take-append-drop}
use lib.Utf8.{encode, scalar_cases, low_scalar}
use Rattle.std.proofs.lemmas.List.{take_rest}
use Rattle.std.proofs.str.Laws.{Shape, of1, of2, of3, of4, shape, not_empty, one}
use Rattle.std.proofs.str.Faults.{Ranged}
use Rattle.std.proofs.str.Faults as faults
use Rattle.utf8.specs.Rfc.{Char, NoChar, octets}
use Rattle.utf8.proofs.Standard.{char, none, encoded, scalar_is}

-- a list and the same list cut after n octets
pub widen : (s : List ℕ) (n c : ℕ) → Char (take n s) c [] → Char s c (take (length s - n) (drop n s))
widen s n c h = record {
  valid = h.valid;
  split = sym (take-append-drop n s) ∙ ap (λ l. l ++ drop n s) (h.split ∙ append-nil (octets c)) ∙ ap (λ l. octets c ++ l) (sym (take_rest s n));
}

-- n elements from the i-th on, one by one
abbrev pub elements : ℕ → ℕ → List ℕ → List ℕ
elements zero i s = []
elements (suc n) i s = get_or s i 0 ∷ elements n (suc i) s

shifted : (n i a : ℕ) (s : List ℕ) → elements n (suc i) (a ∷ s) ≡ elements n i s
shifted zero i a s = refl
shifted (suc n) i a s = ap (λ l. get_or s i 0 ∷ l) (shifted n (suc i) a s)

pub front : (n : ℕ) (s : List ℕ) → n ≤ length s → take n s ≡ elements n 0 s
front zero s h = refl
front (suc n) [] h = absurd (omega arith)
front (suc n) (a ∷ s) h = ap (λ l. a ∷ l) (front n s (omega arith) ∙ sym (shifted n 0 a s))

-- where the front is a character, the list begins with it
pub begins : (s : List ℕ) (n c : ℕ) → n ≤ length s → Char (elements n 0 s) c [] → Char s c (take (length s - n) (drop n s))
begins s n c h k = widen s n c (subst (λ l. Char l c []) (sym (front n s h)) k)

pub one_octet : (a : ℕ) → a < 128 → Char (a ∷ []) a []
one_octet a h = char (a ∷ []) a [] (low_scalar a (omega arith)) (sym (ap (λ l. l ++ []) (one a h)))

-- what the first octet says of a character's length
abbrev Sized : List ℕ → List ℕ → Type 0
Sized r p = let a = get_or (p ++ r) 0 0 in (a < 224 → length p ≤ 2) × (a < 240 → length p ≤ 3) × (length p ≤ 4)

sized : (c : ℕ) (r : List ℕ) → Shape c → Sized r (encode c)
sized c r (of1 l e) = subst (Sized r) (sym e) (λ _. omega arith, λ _. omega arith, omega arith)
sized c r (of2 a b l u f s e) = subst (Sized r) (sym e) (λ _. omega arith, λ _. omega arith, omega arith)
sized c r (of3 a b d l u f g s e) = subst (Sized r) (sym e) (λ h. absurd (omega arith), λ _. omega arith, omega arith)
sized c r (of4 a b d x l u f g h s e) = subst (Sized r) (sym e) (λ k. absurd (omega arith), λ k. absurd (omega arith), omega arith)

take_past : (n : ℕ) (p r : List ℕ) → length p ≤ n → take n (p ++ r) ≡ p ++ take (n - length p) r
take_past n [] r h = let e : n ≡ n - 0 = omega arith in ap (λ k. take k r) e
take_past zero (x ∷ p) r h = absurd (omega arith)
take_past (suc n) (x ∷ p) r h = let e : n - length p ≡ suc n - suc (length p) = omega arith in ap (λ l. x ∷ l) (take_past n p r (omega arith) ∙ ap (λ k. p ++ take k r) e)

-- where the front of n octets is no character, and a longer one cannot begin so, the list begins with none
narrow : (s : List ℕ) (n : ℕ) → n ≤ length s → ((c : ℕ) (r : List ℕ) → Shape c → s ≡ encode c ++ r → length (encode c) ≤ n) → NoChar (elements n 0 s) → NoChar s
narrow s n h fit never c r k =
    let short = fit c r (shape c (scalar_cases c (scalar_is k))) (encoded k) in
    never c (take (n - length (encode c)) r)
    (char (elements n 0 s) c (take (n - length (encode c)) r) (scalar_is k) (sym (front n s h) ∙ ap (take n) (encoded k) ∙ take_past n (encode c) r short))

pub narrow2 : (s : List ℕ) → 2 ≤ length s → get_or s 0 0 < 224 → NoChar (elements 2 0 s) → NoChar s
narrow2 s l h = narrow s 2 l (λ c r k e. (sized c r k).0 (subst (λ l. get_or l 0 0 < 224) e h))

pub narrow3 : (s : List ℕ) → 3 ≤ length s → get_or s 0 0 < 240 → NoChar (elements 3 0 s) → NoChar s
narrow3 s l h = narrow s 3 l (λ c r k e. (sized c r k).1 (subst (λ l. get_or l 0 0 < 240) e h))

pub narrow4 : (s : List ℕ) → 4 ≤ length s → NoChar (elements 4 0 s) → NoChar s
narrow4 s l = narrow s 4 l (λ c r k e. (sized c r k).2)

-- octets outside the ranges of a character begin none
pub no_char : (bs : List ℕ) → (Ranged (length bs - 0) (get_or bs 0 0) (get_or bs 1 0) (get_or bs 2 0) (get_or bs 3 0) → ⊥) → NoChar bs
no_char bs h = none bs (faults.no_char bs 0 h)

-- no list that is too short for its first octet begins with a character
pub short : (s : List ℕ) → (length s < 1) ⊎ (((128 ≤ get_or s 0 0) × (length s < 2)) ⊎ (((224 ≤ get_or s 0 0) × (length s < 3)) ⊎ ((240 ≤ get_or s 0 0) × (length s < 4)))) → NoChar s
short s (inl h) = λ c r k. let some = not_empty c (shape c (scalar_cases c (scalar_is k))) r in omega (arith, ap length (encoded k))
short s (inr (inl h)) = no_char s (λ w. omega (arith, w.second h.0))
short s (inr (inr (inl h))) = no_char s (λ w. omega (arith, w.third h.0))
short s (inr (inr (inr h))) = no_char s (λ w. omega (arith, w.fourth h.0))

-- where the n octets of a front are the character c, what follows them lies that much further
pub further : (bs : List ℕ) (c p : ℕ) → Char bs c [] → length bs + p ≡ p + length (octets c)
further bs c p h = add_comm (length bs) p ∙ ap (λ l. p + length l) (h.split ∙ append-nil (octets c))
