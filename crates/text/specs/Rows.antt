-- How characters stand in rows, and what a line measures.
use Rattle.std.specs.Prelude.{◌≡◌, ℕ, ◌+◌, ◌<◌, ◌≤◌, Bool, cond, List, [], ◌∷◌, ◌++◌, length, nat_lt}
use Rattle.text.specs.declared.metrics.Metrics.{Metrics}

-- the cells that characters take in a row
abbrev pub span : (ℕ → ℕ) → List ℕ → ℕ
span u [] = 0
span u (c ∷ cs) = u c + span u cs

-- rows of at most W cells each, where the first character of each later row did not fit on the row before
pub data Rows (W : ℕ) (u : ℕ → ℕ) : List (List ℕ) → Type 0 where
  last : (row : List ℕ) → span u row ≤ W → Rows W u (row ∷ [])
  wrap : (row : List ℕ) (c : ℕ) (next : List ℕ) (rows : List (List ℕ)) → span u row ≤ W → W < span u row + u c → Rows W u ((c ∷ next) ∷ rows) → Rows W u (row ∷ (c ∷ next) ∷ rows)

abbrev pub join : List (List ℕ) → List ℕ
join [] = []
join (row ∷ rows) = row ++ join rows

-- the last row
abbrev pub final : List (List ℕ) → List ℕ
final [] = []
final (row ∷ []) = row
final (row ∷ next ∷ rows) = final (next ∷ rows)

-- the characters xs divided into rows
pub record Division (W : ℕ) (u : ℕ → ℕ) (xs : List ℕ) (rows : List (List ℕ)) : Type 0 where
  pub joined : join rows ≡ xs
  pub stand : Rows W u rows

-- m is the measure of the characters xs: of their only division into rows, the number of rows and the cells of the last
pub record Measures (W : ℕ) (u : ℕ → ℕ) (xs : List ℕ) (m : Metrics) : Type 0 where
  pub rows : List (List ℕ)
  pub division : Division W u xs rows
  pub only : (others : List (List ℕ)) → Division W u xs others → others ≡ rows
  pub height : m.height ≡ length rows
  pub column : m.last_line_width ≡ span u (final rows)

-- ---- the same, computed: one step of the pen for each character
-- a character of w cells at the column col does not fit in W cells
abbrev pub wraps : ℕ → ℕ → ℕ → Bool
wraps W col w = nat_lt W (col + w)

abbrev pub start : Metrics
start = record { height = 1; last_line_width = 0 }

abbrev pub placed : ℕ → ℕ → Metrics → Metrics
placed W w m = cond (wraps W m.last_line_width w)
    (record { height = m.height + 1; last_line_width = w })
    (record { height = m.height; last_line_width = m.last_line_width + w })

abbrev pub metrics : ℕ → (ℕ → ℕ) → Metrics → List ℕ → Metrics
metrics W u m [] = m
metrics W u m (c ∷ cs) = metrics W u (placed W (u c) m) cs
