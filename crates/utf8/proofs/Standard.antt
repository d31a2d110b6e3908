-- The table is that of the standard library, whose lemmas then serve.
use Rattle.std.proofs.Common.{◌≡◌, ℕ, true, ◌&&◌, List, [], ◌∷◌, ◌++◌, sym, refl, ap, ◌∙◌, subst, arith}
use lib.Utf8.{encode, scalar, encodes, scalars}
use Rattle.std.specs.Str as std
use Rattle.std.proofs.lemmas.Str.{encode_same}
use Rattle.std.proofs.lemmas.Bool.Decides.{nat_tests}
use Rattle.utf8.specs.Rfc.{octets, scalar_value, Char, NoChar, Spells, AsStd}
use Rattle.utf8.specs.Rfc as rfc
use Rattle.std.proofs.str.Laws.{both}

pub octets_are : (c : ℕ) → octets c ≡ encode c
unfolding encode
octets_are c = refl

pub scalars_are : (c : ℕ) → scalar_value c ≡ scalar c
scalars_are c = grind (arith, nat_tests)

pub as_std : (c : ℕ) → AsStd c
as_std c = record { octets_are = octets_are c; scalars_are = scalars_are c }

pub char : (bs : List ℕ) (c : ℕ) (rest : List ℕ) → scalar c ≡ true → bs ≡ encode c ++ rest → Char bs c rest
char bs c rest v e = record { valid = scalars_are c ∙ v; split = e ∙ ap (λ l. l ++ rest) (sym (octets_are c)) }

pub encoded : {bs : List ℕ} {c : ℕ} {rest : List ℕ} → Char bs c rest → bs ≡ encode c ++ rest
encoded {bs} {c} {rest} h = h.split ∙ ap (λ l. l ++ rest) (octets_are c)

pub scalar_is : {bs : List ℕ} {c : ℕ} {rest : List ℕ} → Char bs c rest → scalar c ≡ true
scalar_is {bs} {c} {rest} h = sym (scalars_are c) ∙ h.valid

pub none : (bs : List ℕ) → std.StartsWithNoChar bs → NoChar bs
none bs h c rest k = h c rest (scalar_is k) (encoded k)

-- a list begins with one character at most
pub one_char : (bs : List ℕ) (c d : ℕ) (rest more : List ℕ) → Char bs c rest → Char bs d more → (c ≡ d) × (rest ≡ more)
one_char bs c d rest more h k = encode_same c d rest more (sym (encoded h) ∙ encoded k)

-- whole texts
pub spells : (cs bs : List ℕ) → scalars cs ≡ true → encodes cs ≡ bs → Spells bs cs
spells [] bs v e = subst (λ l. Spells l []) e rfc.none
spells (c ∷ cs) bs v e =
    let k = both (scalar c) (scalars cs) v in
    rfc.char bs (encodes cs) cs c (char bs c (encodes cs) k.0 (sym e)) (spells cs (encodes cs) k.1 refl)

pub spelled : (bs cs : List ℕ) → Spells bs cs → (scalars cs ≡ true) × (encodes cs ≡ bs)
spelled bs cs rfc.none = (refl, refl)
spelled bs cs (rfc.char _ rest ds c h k) =
    let on = spelled rest ds k in
    ((λ i. scalar_is h i && on.0 i), ap (λ l. encode c ++ l) on.1 ∙ sym (encoded h))
