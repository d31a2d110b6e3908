-- A cut, from its front on.
use Rattle.std.proofs.Common.{◌≡◌, ℕ, zero, suc, ◌<◌, true, false, eqb, List, [], ◌∷◌, ◌++◌, length, get_or, take, drop, Some, None, Option, refl, ap, arith}
use Rattle.std.specs.List.{AllByRecursion}
use Rattle.std.proofs.lemmas.Bool.{eq-eqb, ne_eqb}
use Rattle.script.specs.Cuts.{led, Cut}

pub cut_none : (at : ℕ) → Cut at [] [] None
cut_none at = record { front_is = refl; rest_is = refl; whole = refl; free = tt }

pub cut_here : (at b : ℕ) (bs : List ℕ) → b ≡ at → Cut at (b ∷ bs) [] (Some bs)
cut_here at b bs e =
    let t : eqb b at ≡ true = eq-eqb b at e in
    record { front_is = simp t; rest_is = simp t; whole = ap (λ x. x ∷ bs) e; free = tt }

pub cut_past : {at b : ℕ} {bs front : List ℕ} {rest : Option (List ℕ)} → (b ≡ at → ⊥) → Cut at bs front rest → Cut at (b ∷ bs) (b ∷ front) rest
cut_past {at} {b} {bs} {front} {rest} ne c =
    let t : eqb b at ≡ false = ne_eqb b at ne in
    record { front_is = simp t (ap (λ l. b ∷ l) c.front_is); rest_is = simp t c.rest_is; whole = ap (λ l. b ∷ l) c.whole; free = (ne, c.free) }

-- the first `at` stands at i
pub cut_found : (at : ℕ) (bs : List ℕ) (i : ℕ) → i < length bs → ((k : ℕ) → k < i → get_or bs k 0 ≡ at → ⊥) → get_or bs i 0 ≡ at → Cut at bs (take i bs) (Some (drop (suc i) bs))
cut_found at [] i h none e = absurd (omega arith)
cut_found at (b ∷ bs) zero h none e = cut_here at b bs e
cut_found at (b ∷ bs) (suc i) h none e = cut_past (none 0 (omega arith)) (cut_found at bs i (omega arith) (λ k l. none (suc k) (omega arith)) e)

-- there is none
pub cut_nowhere : (at : ℕ) (bs : List ℕ) → ((k : ℕ) → k < length bs → get_or bs k 0 ≡ at → ⊥) → Cut at bs bs None
cut_nowhere at [] none = cut_none at
cut_nowhere at (b ∷ bs) none = cut_past (none 0 (omega arith)) (cut_nowhere at bs (λ k l. none (suc k) (omega arith)))

-- a front with no `at` is the front of a cut
pub cut_join : (at : ℕ) (front : List ℕ) (rest : Option (List ℕ)) → AllByRecursion (λ b. b ≡ at → ⊥) front → Cut at (front ++ led at rest) front rest
cut_join at [] None h = cut_none at
cut_join at [] (Some bs) h = cut_here at at bs refl
cut_join at (b ∷ front) rest h = cut_past h.0 (cut_join at front rest h.1)
