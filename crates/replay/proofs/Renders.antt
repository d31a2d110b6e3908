-- The bytes that a text means and the order that a command says, computed.
use Rattle.std.proofs.Common.{get_or, ◌≡◌, ℕ, zero, suc, ◌<◌, ◌≤◌, ◌&&◌, eqb, ltb, List, [], ◌∷◌, length, Some, None, Option, MatchOption, refl, sym, ap, arith, subst}
use Rattle.std.specs.Char.{digit_value}
use Rattle.std.proofs.lemmas.Bool.{and_from, and_parts, both_ways, cond_both, eqb-false, eqb-true, lt-ltb, ltb-true}
use Rattle.script.specs.Escapes.{Hex, Byte, NoByte, itself, backslash, newline, coded, none, more, Means}
use Rattle.script.proofs.Bytes.{byte_less, means_one, no_byte_nil, no_escape}
use Rattle.replay.specs.declared.command.Command.{Command}
use Rattle.replay.specs.declared.command.Command.TheVariants.{Measure, Admit, Limiter, LimiterAllow, Position, PositionAllow, PositionReset, PositionSet, PositionGet}
use Rattle.replay.specs.Commands.{Says, a_measure, an_admit, a_limiter, a_limiter_allow, a_position, a_position_allow, a_position_reset, a_position_set, a_position_get, written, said}
use Rattle.replay.specs.Orders.{Order, measure, admit}
use Rattle.replay.specs.Rendering.{first_coded, first_escaped, first_byte, first_then, meaning, meaning_within, rendering, order_of, Rendered}

abbrev Begins : List ℕ → Option (ℕ × List ℕ) → Type 0
Begins raw o = MatchOption o (NoByte raw) (λ p. Byte raw p.0 p.1)

no_code : (t : List ℕ) → (2 < length (120 ∷ t) → Hex (get_or t 0 0) → Hex (get_or t 1 0) → ⊥) → NoByte (92 ∷ 120 ∷ t)
no_code t r = no_escape (120 ∷ t) (λ _ e. omega arith) (λ _ e. omega arith) (λ h _. r h)

coded_begins : (t : List ℕ) → Begins (92 ∷ 120 ∷ t) (first_coded t)
coded_begins [] = no_code [] (λ h _ _. omega arith)
coded_begins (high ∷ []) = no_code (high ∷ []) (λ h _ _. omega arith)
coded_begins (high ∷ low ∷ t) =
    let is_high = ltb (digit_value high) 16 in
    let is_low = ltb (digit_value low) 16 in
    cond_both (is_high && is_low) _ _ (Begins (92 ∷ 120 ∷ high ∷ low ∷ t))
    (λ e. let both = and_parts is_high is_low e in coded (ltb-true _ 16 both.0) (ltb-true _ 16 both.1))
    (λ e. no_code (high ∷ low ∷ t) (λ _ h l. both_ways (is_high && is_low) e (and_from is_high is_low (lt-ltb _ 16 h) (lt-ltb _ 16 l))))

escaped_begins : (t : List ℕ) → Begins (92 ∷ t) (first_escaped t)
escaped_begins [] = no_escape [] (λ h _. omega arith) (λ h _. omega arith) (λ h _ _ _. omega arith)
escaped_begins (c ∷ t) =
    cond_both (eqb c 92) _ _ (Begins (92 ∷ c ∷ t))
    (λ e. subst (λ x. Byte (92 ∷ x ∷ t) 92 t) (sym (eqb-true c 92 e)) backslash)
    (λ not_backslash. cond_both (eqb c 110) _ _ (Begins (92 ∷ c ∷ t))
    (λ e. subst (λ x. Byte (92 ∷ x ∷ t) 10 t) (sym (eqb-true c 110 e)) newline)
    (λ not_n. cond_both (eqb c 120) _ _ (Begins (92 ∷ c ∷ t))
    (λ e. subst (λ x. Begins (92 ∷ x ∷ t) (first_coded t)) (sym (eqb-true c 120 e)) (coded_begins t))
    (λ not_x. no_escape (c ∷ t) (λ _. eqb-false c 92 not_backslash) (λ _. eqb-false c 110 not_n) (λ _ e _ _. eqb-false c 120 not_x e))))

first_byte_begins : (raw : List ℕ) → Begins raw (first_byte raw)
first_byte_begins [] = no_byte_nil
first_byte_begins (b ∷ t) =
    cond_both (eqb b 92) _ _ (Begins (b ∷ t))
    (λ e. subst (λ x. Begins (x ∷ t) (first_escaped t)) (sym (eqb-true b 92 e)) (escaped_begins t))
    (λ e. itself (eqb-false b 92 e))

first_then_means : (raw : List ℕ) (o : Option (ℕ × List ℕ)) (further : List ℕ → List ℕ) → Begins raw o → ((rest : List ℕ) → length rest < length raw → Means rest (further rest)) → Means raw (first_then o further)
first_then_means raw None further b h = record { left = raw; spelt = none; ends = b }
first_then_means raw (Some p) further b h = let m = h p.1 (byte_less b) in record { left = m.left; spelt = more b m.spelt; ends = m.ends }

within_means : (n : ℕ) (raw : List ℕ) → length raw ≤ n → Means raw (meaning_within n raw)
within_means zero [] h = record { left = []; spelt = none; ends = no_byte_nil }
within_means zero (b ∷ raw) h = absurd (omega arith)
within_means (suc n) raw h = first_then_means raw (first_byte raw) (meaning_within n) (first_byte_begins raw) (λ rest l. within_means n rest (omega arith))

pub meaning_means : (raw : List ℕ) → Means raw (meaning raw)
meaning_means raw = within_means (length raw) raw (omega arith)

pub meaning-byte : {raw rest : List ℕ} {b : ℕ} → Byte raw b rest → meaning raw ≡ b ∷ meaning rest
meaning-byte {raw} {rest} p = let m = meaning_means rest in means_one (meaning_means raw) (record { left = m.left; spelt = more p m.spelt; ends = m.ends })

pub meaning-end : {raw : List ℕ} → NoByte raw → meaning raw ≡ []
meaning-end {raw} p = means_one (meaning_means raw) (record { left = raw; spelt = none; ends = p })

says_order : (c : Command) → Says c (order_of c)
says_order (Measure w u t) = a_measure (meaning_means t.now)
says_order (Admit t) = an_admit (meaning_means t.now)
says_order (Limiter r s) = a_limiter
says_order (LimiterAllow n) = a_limiter_allow
says_order (Position n) = a_position
says_order (PositionAllow n) = a_position_allow
says_order (PositionReset n) = a_position_reset
says_order (PositionSet n) = a_position_set
says_order PositionGet = a_position_get

-- a command says what its text means
pub said_is : {c : Command} {o : Order} (bs : List ℕ) → Says c o → Means (written c) bs → o ≡ said c bs
said_is bs (a_measure {w = w} {u = u} m) h = ap (measure w u) (means_one m h)
said_is bs (an_admit m) h = ap admit (means_one m h)
said_is bs a_limiter h = refl
said_is bs a_limiter_allow h = refl
said_is bs a_position h = refl
said_is bs a_position_allow h = refl
said_is bs a_position_reset h = refl
said_is bs a_position_set h = refl
said_is bs a_position_get h = refl

pub rendered : (c : Command) (bs : List ℕ) → bs ≡ rendering (order_of c) → Rendered c bs
rendered c bs e = record { order = order_of c; says = says_order c; alone = λ o s. said_is (meaning (written c)) s (meaning_means (written c)); line = e }
