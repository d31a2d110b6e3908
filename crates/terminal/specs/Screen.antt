-- What a terminal shows: cells in rows, and a cursor. Assumes nothing.
use Rattle.std.specs.Prelude.{◌≡◌, ℕ, ◌*◌, ◌<◌, ◌≤◌, List, length, replicate}
use Rattle.text.specs.Width.{Rule}

-- the cells, row by row, and the cursor; a cell holds a code point, or 0 as the second cell of a wide character
pub record Page : Type 0 where
  pub cells : List ℕ
  pub row : ℕ
  pub column : ℕ

-- a page of `width` columns and `height` rows; `rule` gives each code point its number of cells
pub record Screen : Type 0 where
  pub width : ℕ
  pub height : ℕ
  pub rule : ℕ → ℕ
  pub page : Page

abbrev pub least_width : ℕ
least_width = 2

abbrev pub most_width : ℕ
most_width = 512

abbrev pub least_height : ℕ
least_height = 1

abbrev pub most_height : ℕ
most_height = 256

-- a screen that there can be
pub record Sound (s : Screen) : Type 0 where
  pub wide : least_width ≤ s.width
  pub narrow : s.width ≤ most_width
  pub tall : least_height ≤ s.height
  pub low : s.height ≤ most_height
  pub rule : Rule s.rule
  pub area : length s.page.cells ≡ s.width * s.height
  pub row_in : s.page.row < s.height
  pub column_in : s.page.column ≤ s.width

abbrev pub blank_page : ℕ → ℕ → Page
blank_page W H = record { cells = replicate (W * H) 32; row = 0; column = 0 }

abbrev pub blank : ℕ → ℕ → (ℕ → ℕ) → Screen
blank W H u = record { width = W; height = H; rule = u; page = blank_page W H }
