-- Borrowed cells as a page.
use Rattle.std.specs.Prelude.{◌≡◌, ℕ, ◌*◌, ◌<◌, ◌≤◌, Bool, ◌&&◌, cond, List, length, take, drop, Some, None, Option, nat_le}
use Rattle.refusal.specs.declared.Refusal.{Refusal}
use Rattle.refusal.specs.declared.Refusal.TheVariants.{Size, Cells}
use Rattle.terminal.specs.Screen.{Page, least_width, most_width, least_height, most_height}
use Rattle.grid.specs.declared.pane.Pane.{Pane}

abbrev pub area : Pane → ℕ
area p = p.width * p.height

-- the first cells, row by row
abbrev pub page : Pane → Page
page p = record { cells = take (area p) p.cells.now; row = p.row; column = p.column }

-- the cells behind the page
abbrev pub rest : Pane → List ℕ
rest p = drop (area p) p.cells.now

-- there are cells for the page, and the cursor stands on it
pub record Fits (p : Pane) : Type 0 where
  pub wide : least_width ≤ p.width
  pub narrow : p.width ≤ most_width
  pub tall : least_height ≤ p.height
  pub low : p.height ≤ most_height
  pub area : area p ≤ length p.cells.now
  pub row_in : p.row < p.height
  pub column_in : p.column ≤ p.width

-- the page of s became q in t; all else stays
pub record Turned (q : Page) (s t : Pane) : Type 0 where
  pub page : page t ≡ q
  pub rest : rest t ≡ rest s
  pub lender : t.cells.ghost_name ≡ s.cells.ghost_name
  pub width : t.width ≡ s.width
  pub height : t.height ≡ s.height

abbrev pub within : ℕ → ℕ → ℕ → Bool
within low high n = nat_le low n && nat_le n high

-- 1 for a size outside the limits, then 2 for fewer cells than the screen has
abbrev pub size_refusal : ℕ → ℕ → ℕ → Option Refusal
size_refusal W H n = cond (within least_width most_width W) (cond (within least_height most_height H) (cond (nat_le (W * H) n) None (Some Cells)) (Some Size)) (Some Size)
