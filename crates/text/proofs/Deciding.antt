-- What is computed of a text is what is meant.
use Rattle.std.proofs.Common.{◌≡◌, ℕ, true, ◌&&◌, List, sym, refl, ap, ◌∙◌}
use lib.Utf8.{encodes, scalars}
use Rattle.std.specs.Str.{chars, bytes_eq}
use Rattle.std.proofs.lemmas.Str.{chars_from_encodes}
use Rattle.std.proofs.lemmas.Slice.Eq.{bytes_eq-Decides}
use Rattle.std.proofs.str.Laws.{both}
use Rattle.utf8.proofs.Standard.{spells, spelled}
use Rattle.escape.specs.Reading.{accepts, letters}
use Rattle.escape.specs.declared.reader.State.TheVariants.{Ground}
use Rattle.escape.proofs.Walk.{clean, accepted}
use Rattle.text.specs.Texts.{Text, utf8, admissible, characters, Decided}

-- bytes that codes encode decode to them
pub utf8_of : (cs bs : List ℕ) → scalars cs ≡ true → encodes cs ≡ bs → (utf8 bs ≡ true) × (chars bs ≡ cs)
utf8_of cs bs v e =
    let d : chars bs ≡ cs = sym (chars_from_encodes cs bs (cs, (v, e)) e) in
    let s : bytes_eq (encodes (chars bs)) bs ≡ true = (λ i. bytes_eq (encodes (d i)) (sym e i)) ∙ (bytes_eq-Decides (encodes cs) (encodes cs)).1 refl in
    ((λ i. (ap scalars d ∙ v) i && s i), d)

pub codes_of : (bs : List ℕ) → utf8 bs ≡ true → (scalars (chars bs) ≡ true) × (encodes (chars bs) ≡ bs)
codes_of bs e =
    let k = both (scalars (chars bs)) (bytes_eq (encodes (chars bs)) bs) e in
    (k.0, (bytes_eq-Decides (encodes (chars bs)) bs).0 k.1)

pub decided : (bs : List ℕ) → Decided bs
unfolding admissible characters
decided bs = record { yes = yes; only = only }
  where
    yes : admissible bs ≡ true → Text bs (characters bs)
    yes e =
        let k = both (utf8 bs) (accepts Ground (chars bs)) e in
        let c = codes_of bs k.0 in
        record { codes = chars bs; spelled = spells (chars bs) bs c.0 c.1; clean = clean (chars bs) k.1 }

    only : (xs : List ℕ) → Text bs xs → (admissible bs ≡ true) × (characters bs ≡ xs)
    only xs t =
        let s = spelled bs t.codes t.spelled in
        let u = utf8_of t.codes bs s.0 s.1 in
        let a = accepted t.codes xs t.clean in
        ((λ i. u.0 i && (ap (accepts Ground) u.1 ∙ a.0) i), ap (letters Ground) u.1 ∙ a.1)
