-- A line on blank rows: where writing and measure meet. Assumes nothing.
use Rattle.std.specs.Prelude.{◌≡◌, ℕ, zero, suc, ◌+◌, ◌-◌, ◌*◌, ◌≤◌, List, [], ◌∷◌, ◌++◌, length, replicate}
use Rattle.std.specs.List.{flat_map}
use Rattle.text.specs.declared.metrics.Metrics.{Metrics}
use Rattle.text.specs.Rows.{span, Measures}
use Rattle.terminal.specs.Screen.{Page, Screen}

-- the cells of a character c that takes k of them
abbrev pub glyph : ℕ → ℕ → List ℕ
glyph zero c = []
glyph (suc zero) c = c ∷ []
glyph (suc (suc k)) c = c ∷ 0 ∷ []

abbrev pub glyphs : (ℕ → ℕ) → List ℕ → List ℕ
glyphs u cs = flat_map (λ c. glyph (u c) c) cs

-- rows of W cells, each with its characters and blank behind them
abbrev pub laid : ℕ → (ℕ → ℕ) → List (List ℕ) → List ℕ
laid W u rows = flat_map (λ row. glyphs u row ++ replicate (W - span u row) 32) rows

-- the cursor stands at the head of k blank rows
pub record Ahead (W H k : ℕ) (p : Page) : Type 0 where
  pub above : List ℕ
  pub under : List ℕ
  pub cells : p.cells ≡ above ++ (replicate (k * W) 32 ++ under)
  pub start : length above ≡ p.row * W
  pub column : p.column ≡ 0
  pub fits : p.row + k ≤ H

-- q shows these rows from the row r on, all else as it was around them, and its cursor stands where the measure m says
pub record Lies (W : ℕ) (u : ℕ → ℕ) (rows : List (List ℕ)) (above under : List ℕ) (r : ℕ) (m : Metrics) (q : Page) : Type 0 where
  pub cells : q.cells ≡ above ++ (laid W u rows ++ under)
  pub row : q.row + 1 ≡ r + m.height
  pub column : q.column ≡ m.last_line_width

-- the screen s, with the characters xs written on blank rows from its cursor on, is t: they lie in the rows into which measure divides them
abbrev pub ShowsMeasured : List ℕ → Screen → Screen → Type 0
ShowsMeasured xs s t = (m : Metrics) (k : Measures s.width s.rule xs m) (a : Ahead s.width s.height m.height s.page)
    → Lies s.width s.rule k.rows a.above a.under s.page.row m t.page
