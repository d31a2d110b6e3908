-- Writing a line on blank rows. Assumes nothing.
use Rattle.std.proofs.Common.{◌≡◌, ℕ, zero, suc, ◌+◌, ◌-◌, ◌*◌, ◌<◌, ◌≤◌, List, [], ◌∷◌, ◌++◌, length, replicate, Option, Result, sym, refl, ap, ◌∙◌, subst, append_assoc, append-nil, arith, length-append, lt-ltb}
use Rattle.std.proofs.lemmas.List.{length-replicate, replicate-append-replicate, set_at}
use Rattle.std.proofs.lemmas.List.Sums.{fold-append}
use Rattle.std.proofs.lemmas.Bool.{le-ltb}
use Rattle.text.specs.Width.{Rule}
use Rattle.text.specs.Rows.{span, Rows, last, wrap, join, final}
use Rattle.refusal.specs.declared.Refusal.{Refusal}
use Rattle.refusal.specs.Numbers.{code}
use Rattle.text.specs.Texts.{characters}
use Rattle.terminal.specs.Screen.{Page, Screen, Sound}
use Rattle.terminal.specs.Steps.{Answered, TermLaws}
use Rattle.terminal.specs.Operations.{Op, write, below, roomy, celled, inked, written}
use Rattle.terminal.specs.Rows.{glyph, glyphs, laid, ShowsMeasured}

-- the cells `before` stand before the cursor, n blank ones from it on, and `under` behind them
record Stands (W : ℕ) (before : List ℕ) (n : ℕ) (under : List ℕ) (p : Page) : Type 0 where
  cells : p.cells ≡ before ++ (replicate n 32 ++ under)
  start : length before ≡ p.row * W + p.column

-- the same, with its blanks counted otherwise
recount : {W : ℕ} {before : List ℕ} {m n : ℕ} {under : List ℕ} {p : Page} → m ≡ n → Stands W before m under p → Stands W before n under p
recount {W} {before} {m} {n} {under} {p} e h = subst (λ j. Stands W before j under p) e h

one_cell : (W : ℕ) (before : List ℕ) (n : ℕ) (under : List ℕ) (p : Page) (v : ℕ) → Stands W before (suc n) under p → Stands W (before ++ (v ∷ [])) n under (celled W v p)
one_cell W before n under p v h = record {
  cells = rw (h.cells, set_at before 32 (replicate n 32 ++ under) v _ h.start, append_assoc) refl;
  start = length-append before (v ∷ []) ∙ omega (arith, h.start);
}

-- a page where a character was written in its row
record Wrote (W : ℕ) (before : List ℕ) (n : ℕ) (under : List ℕ) (r c : ℕ) (q : Page) : Type 0 where
  stands : Stands W before n under q
  row : q.row ≡ r
  column : q.column ≡ c

-- q shows the rows, its cursor behind the last
record Laid (W : ℕ) (u : ℕ → ℕ) (rows : List (List ℕ)) (above under : List ℕ) (r : ℕ) (q : Page) : Type 0 where
  cells : q.cells ≡ above ++ (laid W u rows ++ under)
  row : q.row + 1 ≡ r + length rows
  column : q.column ≡ span u (final rows)

split_blanks : (above row : List ℕ) (a b : ℕ) (under : List ℕ) → (above ++ row) ++ (replicate (a + b) 32 ++ under) ≡ (above ++ (row ++ replicate a 32)) ++ (replicate b 32 ++ under)
split_blanks above row a b under = ap (λ l. (above ++ row) ++ (l ++ under)) (sym (replicate-append-replicate a b 32)) ∙ simp append_assoc

module _ (W H : ℕ) where
  inked_in : (k c : ℕ) (before : List ℕ) (n : ℕ) (under : List ℕ) (p : Page) → k ≤ 2 → p.column + k ≤ W → Stands W before (k + n) under p
      → Wrote W (before ++ glyph k c) n under p.row (p.column + k) (inked W H k c p)
  inked_in zero c before n under p two fit h = rw append-nil (record { stands = recount (omega arith) h; row = refl; column = omega arith })
  inked_in (suc zero) c before n under p two fit h =
      rw (le-ltb W (p.column + 1) fit) (record { stands = one_cell W before n under p c (recount (omega arith) h); row = refl; column = refl })
  inked_in (suc (suc zero)) c before n under p two fit h =
      rw (le-ltb W (p.column + 2) fit) (record {
        stands = rw append_assoc at (one_cell W (before ++ (c ∷ [])) n under (celled W c p) 0 (one_cell W before (suc n) under p c (recount (omega arith) h)));
        row = refl;
        column = omega arith;
      })
  inked_in (suc (suc (suc k))) c before n under p two fit h = absurd (omega arith)

  module _ (u : ℕ → ℕ) (rule : Rule u) where
    -- characters that the row has room for
    row_written : (xs : List ℕ) (before : List ℕ) (n : ℕ) (under : List ℕ) (p : Page) → p.column + span u xs ≤ W → Stands W before (span u xs + n) under p
        → Wrote W (before ++ glyphs u xs) n under p.row (p.column + span u xs) (written W H u xs p)
    row_written [] before n under p fit h = rw append-nil (record { stands = recount (omega arith) h; row = refl; column = omega arith })
    row_written (c ∷ cs) before n under p fit h =
        let k = u c in
        let s = span u cs in
        let q = inked W H k c p in
        let w = inked_in k c before (s + n) under p (rule.narrow c) (omega arith) (recount (omega arith) h) in
        let more = row_written cs (before ++ glyph k c) n under q (omega (arith, w.column)) w.stands in
        record {
          stands = rw append_assoc at more.stands;
          row = more.row ∙ w.row;
          column = more.column ∙ omega (arith, w.column);
        }

    -- a character that does not fit begins the next row
    next_begun : (k : ℕ) (p : Page) → k ≤ W → W < p.column + k → p.row + 1 < H → roomy W H k p ≡ roomy W H k (below p)
    next_begun k p fit over more =
        rw (lt-ltb W (p.column + k) over, lt-ltb (p.row + 1) H more, le-ltb W (0 + k) (omega arith))

    module _ (two : 2 ≤ W) where
      wraps_on : (c : ℕ) (p : Page) → p.column ≤ W → W < p.column + u c → p.row + 1 < H → inked W H (u c) c p ≡ inked W H (u c) c (below p)
      wraps_on c p in_row over more = by (u c) (rule.narrow c) over
        where
          by : (k : ℕ) → k ≤ 2 → W < p.column + k → inked W H k c p ≡ inked W H k c (below p)
          by zero small h = absurd (omega arith)
          by (suc zero) small h = ap (celled W c) (next_begun 1 p (omega arith) h more)
          by (suc (suc zero)) small h = ap (λ m. celled W 0 (celled W c m)) (next_begun 2 p two h more)
          by (suc (suc (suc k))) small h = absurd (omega arith)

      rows_written : (rows : List (List ℕ)) → Rows W u rows → (above under : List ℕ) (p : Page) → p.column ≡ 0 → p.row + length rows ≤ H → Stands W above (length rows * W) under p
          → Laid W u rows above under p.row (written W H u (join rows) p)
      rows_written _ (last row fit) above under p first low h =
          let s = span u row in
          let w = row_written row above (W - s) under p (omega (arith, fit, first)) (recount (omega (arith, fit)) h) in
          rw (append-nil row) (record {
            cells = w.stands.cells ∙ simp (append_assoc, append-nil);
            row = ap (λ n. n + 1) w.row;
            column = w.column ∙ omega (arith, first);
          })
      rows_written _ (wrap row c next rows fit over on) above under p first low h =
          let s = span u row in
          let rest : List (List ℕ) = (c ∷ next) ∷ rows in
          let w = row_written row above (W - s + length rest * W) under p (omega (arith, fit, first)) (recount (omega (arith, fit)) h) in
          let q = written W H u row p in
          let filled : List ℕ = above ++ (glyphs u row ++ replicate (W - s) 32) in
          let stands : Stands W filled (length rest * W) under (below q) = record {
            cells = w.stands.cells ∙ split_blanks above (glyphs u row) (W - s) (length rest * W) under;
            start = simp (length-append, length-replicate) (omega (arith, fit, first, w.row, w.column, w.stands.start, length-append above (glyphs u row)));
          } in
          let more = rows_written rest on filled under (below q) refl (omega (arith, low, w.row)) stands in
          let same : written W H u (join (row ∷ rest)) p ≡ written W H u (join rest) (below q) =
          fold-append (λ q d. inked W H (u d) d q) p row (join rest) ∙ ap (written W H u (next ++ join rows)) (wraps_on c q (omega (arith, fit, first, w.column)) (omega (arith, over, first, w.column)) (omega (arith, low, w.row))) in
          rw same (record {
            cells = more.cells ∙ simp append_assoc;
            row = more.row ∙ omega (arith, w.row);
            column = more.column;
          })

-- the characters xs, written on blank rows
pub measured_rows : (xs : List ℕ) (s : Screen) (t : Screen) → Sound s → t.page ≡ written s.width s.height s.rule xs s.page → ShowsMeasured xs s t
measured_rows xs s t sound is m k a =
    let W = s.width in
    let p = s.page in
    let stands : Stands W a.above (length k.rows * W) a.under p = recount (ap (λ n. n * W) k.height) (record { cells = a.cells; start = a.start ∙ omega (arith, a.column) }) in
    let on = rows_written W s.height s.rule sound.rule sound.wide k.rows k.division.stand a.above a.under p a.column (omega (arith, a.fits, k.height)) stands in
    let same : t.page ≡ written W s.height s.rule (join k.rows) p = is ∙ ap (λ l. written W s.height s.rule l p) (sym k.division.joined) in
    record {
      cells = ap (λ q. q.cells) same ∙ on.cells;
      row = ap (λ q. q.row + 1) same ∙ on.row ∙ ap (λ n. p.row + n) (sym k.height);
      column = ap (λ q. q.column) same ∙ on.column ∙ sym k.column;
    }

-- so does every terminal
pub shows_measured : {T A : Type 0} {meaning : T → Screen} {funds : T → Option ℕ} {steps : Op → T → T → Type 0} → TermLaws meaning funds steps
    → {o : Op} {s t : T} {r : Result A Refusal} → Answered funds steps o s r t → (text : List ℕ) → o ≡ write text → code r ≡ 0 → ShowsMeasured (characters text) (meaning s) (meaning t)
shows_measured {meaning = meaning} {funds} {steps} laws {o} {s} {t} h text e ok =
    let did = subst (λ x. steps x s t) e (h.done (sym h.number ∙ ok)) in
    measured_rows (characters text) (meaning s) (meaning t) (laws.sound s) (ap (λ x. x.page) (laws.effects (write text) s t did))
