-- The canonical line of an order spells it.
use Rattle.std.proofs.Common.{◌≡◌, ℕ, ◌+◌, ◌*◌, ◌/◌, ◌%◌, ◌^◌, ◌<◌, Bool, true, false, not, ◌&&◌, ◌||◌, eqb, ltb, leb, List, [], ◌∷◌, ◌++◌, Some, None, Ok, Err, codes, decimal, Result, sym, refl, subst, ⊎_elim, arith, MatchResult}
use Rattle.std.specs.Str.Parse.{AllDigits}
use Rattle.std.specs.Char.{digit_value, digit_char}
use Rattle.std.specs.List.{AllByRecursion}
use Rattle.std.proofs.lemmas.Fmt.{decimal_is_IsNumeral}
use Rattle.std.proofs.lemmas.Bool.{and_parts, not-true, eqb-false, cases_eq, ne_eqb}
use Rattle.std.proofs.lemmas.Str.{digit_value-digit_char}
use Rattle.replay.specs.declared.command.Command.{Command}
use Rattle.replay.specs.declared.command.Fault.{Fault}
use Rattle.replay.specs.declared.command.Rule.{Rule}
use Rattle.replay.specs.declared.command.Rule.TheVariants.{Plain, House}
use Rattle.replay.specs.Commands.{Says, Understood, Refused}
use Rattle.script.specs.Cuts.{Cut}
use Rattle.script.specs.Escapes.{Hex, Byte, itself, backslash, newline, coded, none, more, Meant}
use Rattle.replay.specs.Grammar.{Spelled, as_is, as_number, as_rate, as_rule, Phrase, end, tail, next, Spells}
use Rattle.script.specs.Numbers.{Number}
use Rattle.replay.specs.Orders.{Order, measure, admit, limiter, limiter_allow, position, position_allow, position_reset, position_set, position_get, Part, named}
use Rattle.replay.specs.Rendering.{escaped_byte, escaped, rendering, InRange}
use Rattle.script.proofs.Cutting.{cut_none, cut_past, cut_join}

abbrev Solid : List ℕ → Type 0
Solid w = AllByRecursion (λ b. b ≡ 32 → ⊥) w

abbrev solid : List ℕ → Bool
solid [] = true
solid (b ∷ bs) = not (eqb b 32) && solid bs

solid_is : (w : List ℕ) → solid w ≡ true → Solid w
solid_is [] e = tt
solid_is (b ∷ bs) e = let p = and_parts (not (eqb b 32)) (solid bs) e in (eqb-false b 32 (not-true (eqb b 32) p.0), solid_is bs p.1)

cut_only : (w : List ℕ) → Solid w → Cut 32 w w None
cut_only [] h = cut_none 32
cut_only (b ∷ w) h = cut_past h.0 (cut_only w h.1)

then_part : {p : Part} {ps : List Part} {w l : List ℕ} → Spelled p w → Solid w → Phrase ps (Some l) → Phrase (p ∷ ps) (Some (w ++ 32 ∷ l))
then_part {p} {ps} {w} {l} s h q =
    let c = cut_join 32 w (Some l) h in
    next (subst (λ x. Spelled p x) c.front_is s) (subst (λ r. Phrase ps r) c.rest_is q)

last_part : {p : Part} {w : List ℕ} → Spelled p w → Solid w → Phrase (p ∷ []) (Some w)
last_part {p} {w} s h =
    let c = cut_only w h in
    next (subst (λ x. Spelled p x) c.front_is s) (subst (λ r. Phrase [] r) c.rest_is end)

digits_solid : (ds : List ℕ) → AllDigits 10 ds → Solid ds
digits_solid [] h = tt
digits_solid (c ∷ cs) h = (λ e. let z : digit_value 32 < 10 = subst (λ x. digit_value x < 10) e h.0 in omega arith, digits_solid cs h.1)

number_decimal : (n : ℕ) → n < 2 ^ 64 → Number (decimal n) n
number_decimal n h = let d = decimal_is_IsNumeral n h in record { digits = d.0; is = sym d.1; fits = h }

solid_decimal : (n : ℕ) → n < 2 ^ 64 → Solid (decimal n)
solid_decimal n h = digits_solid (decimal n) (number_decimal n h).digits.1

named_solid : (u : Rule) → Solid (named u)
named_solid Plain = solid_is (named Plain) refl
named_solid House = solid_is (named House) refl

hex_char : (d : ℕ) → d < 16 → Hex (digit_char d)
hex_char d h = subst (λ x. x < 16) (sym (digit_value-digit_char d (omega arith))) h

coded_byte : (b : ℕ) (rest : List ℕ) → b < 256 → Byte (92 ∷ 120 ∷ digit_char (b / 16) ∷ digit_char (b % 16) ∷ rest) b rest
coded_byte b rest h =
    let high : b / 16 < 16 = omega arith in
    let low : b % 16 < 16 = omega arith in
    let value : digit_value (digit_char (b / 16)) * 16 + digit_value (digit_char (b % 16)) ≡ b = omega (arith, digit_value-digit_char (b / 16) (omega arith), digit_value-digit_char (b % 16) (omega arith)) in
    subst (λ x. Byte (92 ∷ 120 ∷ digit_char (b / 16) ∷ digit_char (b % 16) ∷ rest) x rest) value (coded (hex_char (b / 16) high) (hex_char (b % 16) low))

byte_escaped : (b : ℕ) (rest : List ℕ) → b < 256 → Byte (escaped_byte b ++ rest) b rest
byte_escaped b rest h =
    ⊎_elim (λ e. subst (λ x. Byte (escaped_byte x ++ rest) x rest) (sym e) backslash)
    (λ n. ⊎_elim (λ e. subst (λ x. Byte (escaped_byte x ++ rest) x rest) (sym e) newline) (λ m. other n m (ltb b 32 || leb 127 b) refl) (cases_eq b 10))
    (cases_eq b 92)
  where
    other : (b ≡ 92 → ⊥) → (b ≡ 10 → ⊥) → (t : Bool) → (ltb b 32 || leb 127 b) ≡ t → Byte (escaped_byte b ++ rest) b rest
    other n m true e = let x = ne_eqb b 92 n in let y = ne_eqb b 10 m in simp (x, y, e) (coded_byte b rest h)
    other n m false e = let x = ne_eqb b 92 n in let y = ne_eqb b 10 m in simp (x, y, e) (itself n)

meant_escaped : (bs : List ℕ) → AllByRecursion (λ b. b < 256) bs → Meant (escaped bs) bs
meant_escaped [] h = none
meant_escaped (b ∷ bs) h = more (byte_escaped b (escaped bs) h.0) (meant_escaped bs h.1)

pub spells_back : (o : Order) → InRange o → Spells (rendering o) o
spells_back (measure w u t) h = then_part (as_is refl) (solid_is (codes "measure") refl) (then_part (as_number (number_decimal w h.0)) (solid_decimal w h.0) (then_part (as_rule refl) (named_solid u) (tail (meant_escaped t h.1))))
spells_back (admit t) h = then_part (as_is refl) (solid_is (codes "admit") refl) (tail (meant_escaped t h))
spells_back (limiter r s) h = let small : r < 2 ^ 64 = omega arith in then_part (as_is refl) (solid_is (codes "limiter") refl) (then_part (as_rate (number_decimal r small) h.0) (solid_decimal r small) (last_part (as_number (number_decimal s h.1)) (solid_decimal s h.1)))
spells_back (limiter_allow n) h = then_part (as_is refl) (solid_is (codes "limiter") refl) (then_part (as_is refl) (solid_is (codes "allow") refl) (last_part (as_number (number_decimal n h)) (solid_decimal n h)))
spells_back (position n) h = then_part (as_is refl) (solid_is (codes "position") refl) (last_part (as_number (number_decimal n h)) (solid_decimal n h))
spells_back (position_allow n) h = then_part (as_is refl) (solid_is (codes "position") refl) (then_part (as_is refl) (solid_is (codes "allow") refl) (last_part (as_number (number_decimal n h)) (solid_decimal n h)))
spells_back (position_reset n) h = then_part (as_is refl) (solid_is (codes "position") refl) (then_part (as_is refl) (solid_is (codes "reset") refl) (last_part (as_number (number_decimal n h)) (solid_decimal n h)))
spells_back (position_set n) h = then_part (as_is refl) (solid_is (codes "position") refl) (then_part (as_is refl) (solid_is (codes "set") refl) (last_part (as_number (number_decimal n h)) (solid_decimal n h)))
spells_back position_get h = then_part (as_is refl) (solid_is (codes "position") refl) (last_part (as_is refl) (solid_is (codes "get") refl))

-- what a parse that reads the grammar makes of a canonical line
pub round : {line : List ℕ} (r : Result Command Fault) → MatchResult r (λ c. Understood line c) (λ f. Refused line f) → (o : Order) → InRange o → line ≡ rendering o → MatchResult r (λ c. Says c o) (λ _. ⊥)
round (Ok c) u o h e = subst (λ p. Says c p) (sym (u.alone o (subst (λ l. Spells l o) (sym e) (spells_back o h)))) u.says
round (Err f) n o h e = n.nothing o (subst (λ l. Spells l o) (sym e) (spells_back o h))
