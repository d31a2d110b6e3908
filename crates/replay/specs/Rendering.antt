-- The canonical line of an order.
use Rattle.std.specs.Prelude.{◌≡◌, ℕ, zero, suc, ◌+◌, ◌*◌, ◌/◌, ◌%◌, ◌^◌, ◌<◌, ◌≤◌, cond, ◌&&◌, ◌||◌, List, [], ◌∷◌, ◌++◌, length, Some, None, Option, decimal, ◌==◌, nat_le, nat_lt}
use Rattle.std.specs.Char.{digit_char, digit_value}
use Rattle.std.specs.List.{flat_map, AllByRecursion}
use Rattle.replay.specs.declared.command.Command.{Command}
use Rattle.replay.specs.Commands.{Says, written, said}
use Rattle.replay.specs.Orders.{Order, measure, admit, limiter, limiter_allow, position, position_allow, position_reset, position_set, position_get, Part, word, number, rate, rule, text, parts, named}

-- a backslash is doubled, a line end is `\n`, what is not printable ASCII is `\x` with two lower-case digits, all else stands as it is
abbrev pub escaped_byte : ℕ → List ℕ
escaped_byte b = cond (b == 92) (92 ∷ 92 ∷ []) (cond (b == 10) (92 ∷ 110 ∷ []) (cond (nat_lt b 32 || nat_le 127 b) (92 ∷ 120 ∷ digit_char (b / 16) ∷ digit_char (b % 16) ∷ []) (b ∷ [])))

abbrev pub escaped : List ℕ → List ℕ
escaped bs = flat_map escaped_byte bs

abbrev pub spelling : Part → List ℕ
spelling (word w) = w
spelling (number n) = decimal n
spelling (rate n) = decimal n
spelling (rule u) = named u
spelling (text bs) = escaped bs

-- one space between two parts, also before an empty text
abbrev pub lined : List Part → List ℕ
lined [] = []
lined (p ∷ []) = spelling p
lined (p ∷ q ∷ ps) = spelling p ++ 32 ∷ lined (q ∷ ps)

abbrev pub rendering : Order → List ℕ
rendering o = lined (parts o)

-- the numbers that a command can hold
abbrev pub InRange : Order → Type 0
InRange (measure w u t) = (w < 2 ^ 64) × AllByRecursion (λ b. b < 256) t
InRange (admit t) = AllByRecursion (λ b. b < 256) t
InRange (limiter r s) = (r ≤ 255) × (s < 2 ^ 64)
InRange (limiter_allow n) = n < 2 ^ 64
InRange (position n) = n < 2 ^ 64
InRange (position_allow n) = n < 2 ^ 64
InRange (position_reset n) = n < 2 ^ 64
InRange (position_set n) = n < 2 ^ 64
InRange position_get = Unit {0}

-- what stands behind the backslash and the `x` of an escape: two digits, and the rest
abbrev pub first_coded : List ℕ → Option (ℕ × List ℕ)
first_coded (high ∷ low ∷ rest) = cond (nat_lt (digit_value high) 16 && nat_lt (digit_value low) 16) (Some (digit_value high * 16 + digit_value low, rest)) None
first_coded (high ∷ []) = None
first_coded [] = None

-- what a backslash with a text behind it spells, and the rest
abbrev pub first_escaped : List ℕ → Option (ℕ × List ℕ)
first_escaped [] = None
first_escaped (c ∷ rest) = cond (c == 92) (Some (92, rest)) (cond (c == 110) (Some (10, rest)) (cond (c == 120) (first_coded rest) None))

-- the first byte that a text spells, and the rest
abbrev pub first_byte : List ℕ → Option (ℕ × List ℕ)
first_byte [] = None
first_byte (b ∷ rest) = cond (b == 92) (first_escaped rest) (Some (b, rest))

-- nothing, or the byte and what is made of the rest
abbrev pub first_then : Option (ℕ × List ℕ) → (List ℕ → List ℕ) → List ℕ
first_then None further = []
first_then (Some p) further = p.0 ∷ further p.1

-- the first n of the bytes that a text means
abbrev pub meaning_within : ℕ → List ℕ → List ℕ
meaning_within zero raw = []
meaning_within (suc n) raw = first_then (first_byte raw) (meaning_within n)

-- the bytes that a text means, up to its end or the first backslash that begins no escape
abbrev pub meaning : List ℕ → List ℕ
meaning raw = meaning_within (length raw) raw

-- the order that a command says
abbrev pub order_of : Command → Order
order_of c = said c (meaning (written c))

-- the bytes are the canonical line of what the command says
pub record Rendered (c : Command) (bs : List ℕ) : Type 0 where
  pub order : Order
  pub says : Says c order
  pub alone : (o : Order) → Says c o → o ≡ order
  pub line : bs ≡ rendering order
