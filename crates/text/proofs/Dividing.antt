-- The pen's steps give the only division into rows.
use Rattle.std.proofs.Common.{◌≡◌, ℕ, suc, ◌+◌, ◌<◌, ◌≤◌, max, Bool, true, false, cond, List, [], ◌∷◌, ◌++◌, length, sym, refl, ap, ◌∙◌, subst, append_assoc, append-nil, arith, ltb-false, ltb-true}
use Rattle.std.proofs.lemmas.Bool.Decides.{nat_tests}
use Rattle.text.specs.declared.metrics.Metrics.{Metrics}
use Rattle.text.specs.Rows.{span, Rows, last, wrap, join, final, Division, Measures, wraps, start, placed, metrics}

span_append : (u : ℕ → ℕ) (xs ys : List ℕ) → span u (xs ++ ys) ≡ span u xs + span u ys
span_append u [] ys = omega arith
span_append u (x ∷ xs) ys = omega (arith, span_append u xs ys)

-- what is left of the row in which the column is col, and the rows after it
record Cutting : Type 0 where
  first : List ℕ
  later : List (List ℕ)

abbrev cut_at : Bool → ℕ → Cutting → Cutting → Cutting
cut_at true c new old = record { first = []; later = (c ∷ new.first) ∷ new.later }
cut_at false c new old = record { first = c ∷ old.first; later = old.later }

abbrev cutting : ℕ → (ℕ → ℕ) → ℕ → List ℕ → Cutting
cutting W u col [] = record { first = []; later = [] }
cutting W u col (c ∷ cs) = cut_at (wraps W col (u c)) c (cutting W u (u c) cs) (cutting W u (col + u c) cs)

module _ (W : ℕ) (u : ℕ → ℕ) (rule : (c : ℕ) → u c ≤ W) where
  -- ---- there is a division
  record Cut (row cs : List ℕ) (k : Cutting) : Type 0 where
    stand : Rows W u ((row ++ k.first) ∷ k.later)
    joined : k.first ++ join k.later ≡ cs

  cut_by : (row cs : List ℕ) (c : ℕ) (b : Bool) → wraps W (span u row) (u c) ≡ b → span u row ≤ W → (new old : Cutting)
      → Cut (c ∷ []) cs new → (span u row + u c ≤ W → Cut (row ++ c ∷ []) cs old) → Cut row (c ∷ cs) (cut_at b c new old)
  cut_by row cs c true e h new old n o = record {
    stand = subst (λ r. Rows W u (r ∷ (c ∷ new.first) ∷ new.later)) (sym (append-nil row)) (wrap row c new.first new.later h (ltb-true W (span u row + u c) e) n.stand);
    joined = ap (λ l. c ∷ l) n.joined;
  }
  cut_by row cs c false e h new old n o =
      let k = o (ltb-false W (span u row + u c) e) in
      record {
        stand = subst (λ r. Rows W u (r ∷ old.later)) (append_assoc row (c ∷ []) old.first) k.stand;
        joined = ap (λ l. c ∷ l) k.joined;
      }

  cut : (cs row : List ℕ) (col : ℕ) → span u row ≡ col → col ≤ W → Cut row cs (cutting W u col cs)
  cut [] row col e h = record { stand = subst (λ r. Rows W u (r ∷ [])) (sym (append-nil row)) (last row (omega (arith, e))); joined = refl }
  cut (c ∷ cs) row col e h =
      cut_by row cs c (wraps W col (u c)) (ap (λ n. wraps W n (u c)) e) (omega (arith, e)) (cutting W u (u c) cs) (cutting W u (col + u c) cs)
      (cut cs (c ∷ []) (u c) (omega arith) (rule c))
      (λ fits. cut cs (row ++ c ∷ []) (col + u c) (span_append u row (c ∷ []) ∙ (let s : span u row + (u c + 0) ≡ col + u c = omega (arith, e) in s)) (omega (arith, e)))

  -- ---- and no other
  record Only (f : List ℕ) (l : List (List ℕ)) (k : Cutting) : Type 0 where
    first_is : f ≡ k.first
    later_is : l ≡ k.later

  fits : {row : List ℕ} {l : List (List ℕ)} → Rows W u (row ∷ l) → span u row ≤ W
  fits (last row h) = h
  fits (wrap row c next rows h k r) = h

  later_some : {row : List ℕ} {l : List (List ℕ)} → Rows W u (row ∷ [] ∷ l) → ⊥
  later_some r = elim r [ ]

  breaks : {row n : List ℕ} {c : ℕ} {l : List (List ℕ)} → Rows W u (row ∷ (c ∷ n) ∷ l) → (W < span u row + u c) × Rows W u ((c ∷ n) ∷ l)
  breaks (wrap row c n l h k r) = (k, r)

  broke : (row : List ℕ) (c col : ℕ) → span u row ≡ col → W < span u (row ++ []) + u c → wraps W col (u c) ≡ true
  broke row c col e h = let k : span u (row ++ []) ≡ span u row = ap (span u) (append-nil row) in grind (arith, nat_tests)

  full : (xs ys : List ℕ) → span u (xs ++ ys) ≤ W → span u xs + span u ys ≤ W
  full xs ys h = omega (arith, span_append u xs ys)

  stays : (row f : List ℕ) (c col : ℕ) → span u row ≡ col → span u (row ++ c ∷ f) ≤ W → wraps W col (u c) ≡ false
  stays row f c col e h = let k = full row (c ∷ f) h in grind (arith, nat_tests)

  kept_on : (b : Bool) (c : ℕ) (f : List ℕ) (l : List (List ℕ)) (new old : Cutting) → b ≡ false → Only f l old → Only (c ∷ f) l (cut_at b c new old)
  kept_on true c f l new old e o = cc
  kept_on false c f l new old e o = record { first_is = ap (λ x. c ∷ x) o.first_is; later_is = o.later_is }

  broken_at : (b : Bool) (c : ℕ) (f : List ℕ) (l : List (List ℕ)) (new old : Cutting) → b ≡ true → Only f l new → Only [] ((c ∷ f) ∷ l) (cut_at b c new old)
  broken_at true c f l new old e o = record { first_is = refl; later_is = λ i. (c ∷ o.first_is i) ∷ o.later_is i }
  broken_at false c f l new old e o = cc

  only : (cs row f : List ℕ) (l : List (List ℕ)) (col : ℕ) → span u row ≡ col → Rows W u ((row ++ f) ∷ l) → f ++ join l ≡ cs → Only f l (cutting W u col cs)
  only [] row [] l col e r j = only_none row l r j
    where
      only_none : (row : List ℕ) (l : List (List ℕ)) → Rows W u ((row ++ []) ∷ l) → join l ≡ [] → Only [] l (record { first = []; later = [] })
      only_none row [] r j = record { first_is = refl; later_is = refl }
      only_none row ([] ∷ l) r j = absurd (later_some r)
      only_none row ((d ∷ n) ∷ l) r j = cc
  only [] row (d ∷ f) l col e r j = cc
  only (c ∷ cs) row (d ∷ f) l col e r j =
      let same : d ≡ c = cc in
      let rest : f ++ join l ≡ cs = cc in
      let r' : Rows W u ((row ++ c ∷ f) ∷ l) = subst (λ x. Rows W u ((row ++ x ∷ f) ∷ l)) same r in
      let e' : span u (row ++ c ∷ []) ≡ col + u c = span_append u row (c ∷ []) ∙ (let s : span u row + (u c + 0) ≡ col + u c = omega (arith, e) in s) in
      subst (λ x. Only (x ∷ f) l (cutting W u col (c ∷ cs))) (sym same)
      (kept_on (wraps W col (u c)) c f l (cutting W u (u c) cs) (cutting W u (col + u c) cs) (stays row f c col e (fits r'))
      (only cs (row ++ c ∷ []) f l (col + u c) e' (subst (λ x. Rows W u (x ∷ l)) (sym (append_assoc row (c ∷ []) f)) r') rest))
  only (c ∷ cs) row [] [] col e r j = cc
  only (c ∷ cs) row [] ([] ∷ l) col e r j = absurd (later_some r)
  only (c ∷ cs) row [] ((d ∷ n) ∷ l) col e r j =
      let same : d ≡ c = cc in
      let rest : n ++ join l ≡ cs = cc in
      let r' : Rows W u ((row ++ []) ∷ (c ∷ n) ∷ l) = subst (λ x. Rows W u ((row ++ []) ∷ (x ∷ n) ∷ l)) same r in
      let b = breaks r' in
      subst (λ x. Only [] ((x ∷ n) ∷ l) (cutting W u col (c ∷ cs))) (sym same)
      (broken_at (wraps W col (u c)) c n l (cutting W u (u c) cs) (cutting W u (col + u c) cs) (broke row c col e b.0)
      (only cs (c ∷ []) n l (u c) (omega arith) b.1 rest))

  -- ---- the pen measures it
  record Ended (row : List ℕ) (m : Metrics) (k : Cutting) (n : Metrics) : Type 0 where
    height : n.height ≡ m.height + length k.later
    column : n.last_line_width ≡ span u (final ((row ++ k.first) ∷ k.later))

  abbrev down : ℕ → Metrics → Metrics
  down w m = record { height = m.height + 1; last_line_width = w }

  abbrev along : ℕ → Metrics → Metrics
  along w m = record { height = m.height; last_line_width = m.last_line_width + w }

  ended_by : (row cs : List ℕ) (c : ℕ) (m : Metrics) (b : Bool) (new old : Cutting) → Ended (c ∷ []) (down (u c) m) new (metrics W u (down (u c) m) cs) → Ended (row ++ c ∷ []) (along (u c) m) old (metrics W u (along (u c) m) cs)
      → Ended row m (cut_at b c new old) (metrics W u (cond b (down (u c) m) (along (u c) m)) cs)
  ended_by row cs c m true new old n o = record { height = omega (arith, n.height); column = n.column }
  ended_by row cs c m false new old n o = record { height = o.height; column = o.column ∙ ap (λ r. span u (final (r ∷ old.later))) (append_assoc row (c ∷ []) old.first) }

  ended : (cs row : List ℕ) (m : Metrics) → span u row ≡ m.last_line_width → Ended row m (cutting W u m.last_line_width cs) (metrics W u m cs)
  ended [] row m e = record { height = omega arith; column = sym e ∙ ap (span u) (sym (append-nil row)) }
  ended (c ∷ cs) row m e =
      ended_by row cs c m (wraps W m.last_line_width (u c)) (cutting W u (u c) cs) (cutting W u (m.last_line_width + u c) cs)
      (ended cs (c ∷ []) (down (u c) m) (omega arith))
      (ended cs (row ++ c ∷ []) (along (u c) m) (span_append u row (c ∷ []) ∙ (let s : span u row + (u c + 0) ≡ m.last_line_width + u c = omega (arith, e) in s)))

  pub measures : (xs : List ℕ) → Measures W u xs (metrics W u start xs)
  measures xs =
      let k = cutting W u 0 xs in
      let c = cut xs [] 0 refl (omega arith) in
      let m = ended xs [] start refl in
      record {
        rows = k.first ∷ k.later;
        division = record { joined = c.joined; stand = c.stand };
        only = others;
        height = omega (arith, m.height);
        column = m.column;
      }
    where
      others : (rows : List (List ℕ)) → Division W u xs rows → rows ≡ (cutting W u 0 xs).first ∷ (cutting W u 0 xs).later
      others [] d = elim d.stand [ ]
      others (f ∷ l) d = let o = only xs [] f l 0 refl d.stand d.joined in λ i. o.first_is i ∷ o.later_is i

  -- ---- its bounds
  final_fits : {rows : List (List ℕ)} → Rows W u rows → span u (final rows) ≤ W
  final_fits (last row h) = h
  final_fits (wrap row c next rows h k r) = final_fits r

  pub column_fits : (xs : List ℕ) → (metrics W u start xs).last_line_width ≤ W
  column_fits xs = let m = measures xs in omega (arith, m.column, final_fits m.division.stand)

  placed_rows : (m : Metrics) (w : ℕ) (b : Bool) → let n = cond b (down w m) (along w m) in (m.height ≤ n.height) × (n.height ≤ m.height + 1)
  placed_rows m w true = (omega arith, omega arith)
  placed_rows m w false = (omega arith, omega arith)

  rows_bound : (cs : List ℕ) (m : Metrics) → let n = metrics W u m cs in (m.height ≤ n.height) × (n.height ≤ m.height + length cs)
  rows_bound [] m = (omega arith, omega arith)
  rows_bound (c ∷ cs) m =
      let k = placed_rows m (u c) (wraps W m.last_line_width (u c)) in
      let r = rows_bound cs (placed W (u c) m) in
      (omega (arith, k, r), omega (arith, k, r))

  -- the first character never wraps
  pub rows_within : (xs : List ℕ) → let n = metrics W u start xs in (1 ≤ n.height) × (n.height ≤ max 1 (length xs))
  rows_within [] = (omega arith, omega arith)
  rows_within (c ∷ cs) =
      let e : wraps W 0 (u c) ≡ false = let h = rule c in grind (arith, nat_tests) in
      subst (λ b. let n = metrics W u (cond b (down (u c) start) (along (u c) start)) cs in (1 ≤ n.height) × (n.height ≤ max 1 (suc (length cs)))) (sym e)
      (let r = rows_bound cs (along (u c) start) in (omega (arith, r), omega (arith, r)))
