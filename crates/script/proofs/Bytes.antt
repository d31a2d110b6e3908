-- The spellings of a byte, by what stands at each place.
use Rattle.std.proofs.Common.{◌≡◌, ℕ, ◌+◌, ◌-◌, ◌*◌, ◌<◌, cond, eqb, List, [], ◌∷◌, ◌++◌, length, get_or, take, drop, Some, None, Option, true, Decides, MatchOption, sym, refl, ap, ◌∙◌, subst, arith}
use Rattle.std.specs.Char.{digit_value}
use Rattle.std.proofs.lemmas.List.{take_rest, nil_from_length}
use Rattle.std.specs.Option.{is_some}
use Rattle.std.proofs.lemmas.Bool.{ne_eqb, eq-eqb, eqb-true, false≢true}
use Rattle.script.specs.Escapes.{Hex, Byte, itself, backslash, newline, coded, NoByte, Spelt, none, more, Meant, WellFormed, Means}

-- no escape stands behind a backslash
pub no_escape : (t : List ℕ) → (0 < length t → get_or t 0 0 ≡ 92 → ⊥) → (0 < length t → get_or t 0 0 ≡ 110 → ⊥)
    → (2 < length t → get_or t 0 0 ≡ 120 → Hex (get_or t 1 0) → Hex (get_or t 2 0) → ⊥)
    → NoByte (92 ∷ t)
no_escape t p q r b rest (itself h) = h refl
no_escape t p q r b rest backslash = p (omega arith) refl
no_escape t p q r b rest newline = q (omega arith) refl
no_escape t p q r b rest (coded h l) = r (omega arith) refl h l

-- a spelling at the head of a text, by what its first places hold
pub itself_at : (s : List ℕ) → 0 < length s → (get_or s 0 0 ≡ 92 → ⊥) → Byte s (get_or s 0 0) (take (length s - 1) (drop 1 s))
itself_at [] h ne = absurd (omega arith)
itself_at (b ∷ s) h ne = simp take_rest (itself ne)

pub behind_backslash : (P : List ℕ → Type 0) (s : List ℕ) → 0 < length s → get_or s 0 0 ≡ 92 → P (92 ∷ take (length s - 1) (drop 1 s)) → P s
behind_backslash P [] h e p = absurd (omega arith)
behind_backslash P (b ∷ s) h e p = subst (λ x. P (x ∷ s)) (sym e) (subst (λ l. P (92 ∷ l)) (take_rest (b ∷ s) 1) p)

pub backslash_at : (t : List ℕ) → 0 < length t → get_or t 0 0 ≡ 92 → Byte (92 ∷ t) 92 (take (length t - 1) (drop 1 t))
backslash_at [] h e = absurd (omega arith)
backslash_at (a ∷ t) h e = simp take_rest (subst (λ x. Byte (92 ∷ x ∷ t) 92 t) (sym e) backslash)

pub newline_at : (t : List ℕ) → 0 < length t → get_or t 0 0 ≡ 110 → Byte (92 ∷ t) 10 (take (length t - 1) (drop 1 t))
newline_at [] h e = absurd (omega arith)
newline_at (a ∷ t) h e = simp take_rest (subst (λ x. Byte (92 ∷ x ∷ t) 10 t) (sym e) newline)

pub coded_at : (t : List ℕ) (high low : ℕ) → 2 < length t → get_or t 0 0 ≡ 120 → Hex (get_or t 1 0) × (high ≡ digit_value (get_or t 1 0)) → Hex (get_or t 2 0) × (low ≡ digit_value (get_or t 2 0))
    → Byte (92 ∷ t) (high * 16 + low) (take (length t - 3) (drop 3 t))
coded_at [] high low h e p q = absurd (omega arith)
coded_at (a ∷ []) high low h e p q = absurd (omega arith)
coded_at (a ∷ b ∷ []) high low h e p q = absurd (omega arith)
coded_at (a ∷ b ∷ c ∷ t) high low h e p q =
    simp take_rest (subst (λ x. Byte (92 ∷ x ∷ b ∷ c ∷ t) (high * 16 + low) t) (sym e) (rw (p.1, q.1) (coded p.0 q.0)))

-- the byte and the rest that a well-formed text begins with, computed
abbrev byte_of : List ℕ → ℕ
byte_of s = cond (eqb (get_or s 0 0) 92) (cond (eqb (get_or s 1 0) 92) 92 (cond (eqb (get_or s 1 0) 110) 10 (digit_value (get_or s 2 0) * 16 + digit_value (get_or s 3 0)))) (get_or s 0 0)

abbrev rest_of : List ℕ → List ℕ
rest_of s = cond (eqb (get_or s 0 0) 92) (cond (eqb (get_or s 1 0) 92) (drop 2 s) (cond (eqb (get_or s 1 0) 110) (drop 2 s) (drop 4 s))) (drop 1 s)

byte_is : {s rest : List ℕ} {b : ℕ} → Byte s b rest → (byte_of s ≡ b) × (rest_of s ≡ rest)
byte_is {s} {rest} {b} (itself h) = let t = ne_eqb b 92 h in (simp t, simp t)
byte_is backslash = (refl, refl)
byte_is newline = (refl, refl)
byte_is (coded h l) = (refl, refl)

pub byte_one : {s rest rest' : List ℕ} {b b' : ℕ} → Byte s b rest → Byte s b' rest' → (b ≡ b') × (rest ≡ rest')
byte_one p q = let x = byte_is p in let y = byte_is q in (sym x.0 ∙ y.0, sym x.1 ∙ y.1)

pub byte_some : {s rest : List ℕ} {b : ℕ} → Byte s b rest → 0 < length s
byte_some (itself h) = omega arith
byte_some backslash = omega arith
byte_some newline = omega arith
byte_some (coded h l) = omega arith

-- how far a text is spelled, and what it means, is told by the text alone
pub spelt_one : {s bs cs u v : List ℕ} → NoByte u → NoByte v → Spelt s bs u → Spelt s cs v → (bs ≡ cs) × (u ≡ v)
spelt_one p q none none = (refl, refl)
spelt_one p q none (more x n) = absurd (p _ _ x)
spelt_one p q (more x m) none = absurd (q _ _ x)
spelt_one {u = u} {v} p q (more {b = b} x m) (more {b = b'} {bs = cs} y n) =
    let e = byte_one x y in
    let w = spelt_one p q m (subst (λ t. Spelt t cs v) (sym e.1) n) in
    (λ i. e.0 i ∷ w.0 i, w.1)

pub no_byte_nil : NoByte []
no_byte_nil b rest p = omega (arith, byte_some p)

pub meant_one : {s bs cs : List ℕ} → Meant s bs → Meant s cs → bs ≡ cs
meant_one m n = (spelt_one no_byte_nil no_byte_nil m n).0

pub means_one : {s bs cs : List ℕ} → Means s bs → Means s cs → bs ≡ cs
means_one m n = (spelt_one m.ends n.ends m.spelt n.spelt).0

pub spelt_push : {s bs t u : List ℕ} {b : ℕ} → Spelt s bs t → Byte t b u → Spelt s (bs ++ b ∷ []) u
spelt_push none p = more p none
spelt_push (more q m) p = more q (spelt_push m p)

pub byte_less : {s rest : List ℕ} {b : ℕ} → Byte s b rest → length rest < length s
byte_less (itself h) = omega arith
byte_less backslash = omega arith
byte_less newline = omega arith
byte_less (coded h l) = omega arith

-- one call of the iterator over the bytes that a text spells
pub spelt_on : {s bs t u : List ℕ} (r : Option ℕ) → is_some r ≡ true → Spelt s bs t → MatchOption r (NoByte t × (u ≡ t)) (λ b. Byte t b u) → (cs : List ℕ) × Spelt s cs u
spelt_on None e m h = absurd (false≢true e)
spelt_on {bs = bs} (Some b) e m h = (bs ++ b ∷ [], spelt_push m h)

-- a text that is spelled up to where no byte follows is well formed where nothing is left
pub well_formed_is : {s bs u : List ℕ} → Spelt s bs u → NoByte u → Decides (eqb (length u) 0) (WellFormed s)
well_formed_is {s} {bs} {u} m p =
    (λ e. (bs, subst (λ l. Spelt s bs l) (nil_from_length u (eqb-true (length u) 0 e)) m), λ w. eq-eqb (length u) 0 (ap length (spelt_one p no_byte_nil m w.1).1))
