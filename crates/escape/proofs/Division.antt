-- The pieces of a line, one after the other.
use Rattle.std.proofs.Common.{◌≡◌, ℕ, ◌+◌, ◌-◌, ◌<◌, ◌≤◌, true, eqb, ◌⊎◌, List, [], ◌∷◌, ◌++◌, length, take, drop, sym, refl, ap, ◌∙◌, subst, inl, inr, append_assoc, append-nil, eq-zero-or-pos, arith, length-drop, length-take, take_all, drop-drop, take-add, true-eqb}
use Rattle.escape.specs.Grammar.{Sequence, Heads}
use Rattle.escape.specs.Pieces.{Part, plain, colour, bytes, Opens, Cut, Given, start, next, joined, Follows, Sound, AllSound, Apart, Divided}

-- ---- one cut
pub ended : (line : List ℕ) (i : ℕ) → i ≤ length line → true ≡ eqb (length (take (length line - i) (drop i line))) 0 → i ≡ length line
ended line i h e = omega (arith, true-eqb (length (take (length line - i) (drop i line))) 0 e, length-take (length line - i) (drop i line), length-drop i line)

sequence_some : (q : List ℕ) → Sequence q → 0 < length q
sequence_some q h = rw h.whole (omega arith)

further : (line : List ℕ) (i k : ℕ) → drop k (drop i line) ≡ drop (i + k) line
further line i k = drop-drop k i line

module _ (line : List ℕ) (i n : ℕ) (s rest : List ℕ) (here : i ≤ length line) (at : rest ≡ drop i line) (part : s ≡ take n rest) where
  long : length rest + i ≡ length line
  long = omega (arith, ap length at, length-drop i line)

  same : n ≤ length rest → s ≡ take (i + length s - i) (drop i line)
  same h = let e : n ≡ i + length s - i = omega (arith, ap length part, length-take n rest) in part ∙ ap (take n) at ∙ ap (λ m. take m (drop i line)) e

  size : n ≤ length rest → length s ≡ n
  size h = omega (arith, ap length part, length-take n rest)

  pub colour_cut : Heads rest n → Cut line i (i + length s) (colour s)
  colour_cut h = record {
    part = same h.within;
    some = omega (arith, sequence_some _ h.sequence, length-take n rest, size h.within, h.within);
    within = omega (arith, h.within, long, size h.within);
    kind = subst Sequence (sym part) h.sequence;
  }

  pub plain_cut : 0 < n → n ≤ length rest → ((m : ℕ) → Heads rest m → ⊥) → ((k : ℕ) → 0 < k → k < n → Opens rest k → ⊥) → (n < length rest → Opens rest n) → Cut line i (i + length s) (plain s)
  plain_cut some within first none then = record {
    part = same within;
    some = omega (arith, size within);
    within = omega (arith, long, size within);
    kind = (λ k low high o. never (k - i) k (let e : i + (k - i) ≡ k = omega arith in e) (omega (arith, size within)) o, λ more. subst (λ m. Opens line (i + m)) (sym (size within)) (to n (then (omega (arith, long, size within)))));
  }
    where
      to : (k : ℕ) → Opens rest k → Opens line (i + k)
      to k o = (o.0, subst (λ l. Heads l o.0) (ap (drop k) at ∙ further line i k) o.1)

      from : (k : ℕ) → Opens line (i + k) → Opens rest k
      from k o = (o.0, subst (λ l. Heads l o.0) (sym (ap (drop k) at ∙ further line i k)) o.1)

      by : (k : ℕ) → (k ≡ 0) ⊎ (0 < k) → k < n → Opens rest k → ⊥
      by k (inl e) h o = first o.0 (subst (λ j. Heads (drop j rest) o.0) e o.1)
      by k (inr p) h o = none k p h o

      never : (d : ℕ) (k : ℕ) → i + d ≡ k → k < i + n → Opens line k → ⊥
      never d k e h o = by d (eq-zero-or-pos d) (omega (arith, e)) (from d (subst (Opens line) (sym e) o))

pub given_next : (line : List ℕ) (i j : ℕ) (p : Part) → Cut line i j p → (ps : List Part) → Given line ps i → Given line (ps ++ p ∷ []) j
given_next line i j p h ps g = next ps i j p g h

-- ---- one piece more at the end
joined_push : (ps : List Part) (p : Part) → joined (ps ++ p ∷ []) ≡ joined ps ++ bytes p
joined_push [] p = append-nil (bytes p)
joined_push (a ∷ ps) p = ap (λ l. bytes a ++ l) (joined_push ps p) ∙ sym (append_assoc (bytes a) (joined ps) (bytes p))

sound_push : (ps : List Part) (p : Part) → AllSound ps → Sound p → AllSound (ps ++ p ∷ [])
sound_push [] p h k = (k, tt)
sound_push (a ∷ ps) p h k = (h.0, sound_push ps p h.1 k)

-- p may stand behind the last of ps
abbrev Ends : List Part → Part → Type 0
Ends [] p = Unit {0}
Ends (a ∷ []) p = Follows a (p ∷ [])
Ends (a ∷ b ∷ ps) p = Ends (b ∷ ps) p

follows_head : (a b : Part) (ps rs : List Part) → Follows a (b ∷ ps) → Follows a (b ∷ rs)
follows_head (plain r) (plain t) ps rs h = h
follows_head (plain r) (colour q) ps rs h = tt
follows_head (colour q) b ps rs h = tt

apart_push : (ps : List Part) (p : Part) → Apart ps → Ends ps p → Apart (ps ++ p ∷ [])
apart_push [] (plain r) h k = (tt, tt)
apart_push [] (colour q) h k = (tt, tt)
apart_push (a ∷ []) p h k = (k, apart_push [] p tt tt)
apart_push (a ∷ b ∷ ps) p h k = (follows_head a b ps (ps ++ p ∷ []) h.0, apart_push (b ∷ ps) p h.1 k)

module _ (line : List ℕ) where
  -- where a plain run ends before the line does, a sequence begins
  abbrev Stops : Part → ℕ → Type 0
  Stops (plain run) i = i < length line → Opens line i
  Stops (colour q) i = Unit {0}

  abbrev Last : List Part → ℕ → Type 0
  Last [] i = Unit {0}
  Last (a ∷ []) i = Stops a i
  Last (a ∷ b ∷ ps) i = Last (b ∷ ps) i

  last_push : (ps : List Part) (p : Part) (i : ℕ) → Stops p i → Last (ps ++ p ∷ []) i
  last_push [] p i h = h
  last_push (a ∷ []) p i h = h
  last_push (a ∷ b ∷ ps) p i h = last_push (b ∷ ps) p i h

  stops : (i j : ℕ) (p : Part) → Cut line i j p → Stops p j
  stops i j (plain run) h = h.kind.1
  stops i j (colour q) h = tt

  sound : (i j : ℕ) (p : Part) → Cut line i j p → Sound p
  sound i j (plain run) h = omega (arith, h.some, h.within, ap length h.part, length-take (j - i) (drop i line), length-drop i line)
  sound i j (colour q) h = (omega (arith, h.some, h.within, ap length h.part, length-take (j - i) (drop i line), length-drop i line), h.kind)

  behind : (a p : Part) (i j : ℕ) → Stops a i → Cut line i j p → Follows a (p ∷ [])
  behind (plain r) (plain t) i j s h = h.kind.0 i (omega arith) h.some (s (omega (arith, h.some, h.within)))
  behind (plain r) (colour q) i j s h = tt
  behind (colour q) p i j s h = tt

  ends : (ps : List Part) (p : Part) (i j : ℕ) → Last ps i → Cut line i j p → Ends ps p
  ends [] p i j l h = tt
  ends (a ∷ []) p i j l h = behind a p i j l h
  ends (a ∷ b ∷ ps) p i j l h = ends (b ∷ ps) p i j l h

  record Kept (ps : List Part) (i : ℕ) : Type 0 where
    whole : joined ps ≡ take i line
    sound : AllSound ps
    apart : Apart ps
    last : Last ps i

  kept : (ps : List Part) (i : ℕ) → Given line ps i → Kept ps i
  kept _ _ start = record { whole = refl; sound = tt; apart = tt; last = tt }
  kept _ _ (next ps i j p g h) =
      let k = kept ps i g in
      let e : i + (j - i) ≡ j = omega (arith, h.some) in
      record {
        whole = joined_push ps p ∙ (λ m. k.whole m ++ h.part m) ∙ sym (take-add i (j - i) line) ∙ ap (λ n. take n line) e;
        sound = sound_push ps p k.sound (sound i j p h);
        apart = apart_push ps p k.apart (ends ps p i j k.last h);
        last = last_push ps p j (stops i j p h);
      }

  -- at the end of the line they are all of it
  pub divided : (ps : List Part) (i : ℕ) → i ≡ length line → Given line ps i → Divided line ps
  divided ps i e g =
      let k = kept ps i g in
      record { whole = k.whole ∙ take_all i line (omega (arith, e)); sound = k.sound; apart = k.apart }
