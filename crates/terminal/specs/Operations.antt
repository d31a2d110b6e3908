-- The operations of a terminal: their bytes, and what they do to a page of W columns and H rows under the width rule u. Assumes nothing.
use Rattle.std.specs.Prelude.{ℕ, zero, suc, ◌+◌, ◌-◌, ◌*◌, min, Bool, true, cond, List, [], ◌∷◌, ◌++◌, length, take, drop, replicate, decimal, ◌==◌, nat_lt, slice_set}
use Rattle.std.specs.List.{fold, flat_map}
use Rattle.text.specs.Rows.{wraps}
use Rattle.text.specs.Texts.{admissible, characters}
use Rattle.terminal.specs.Screen.{Page, Screen}
use Rattle.terminal.specs.declared.operation.Direction.{Direction}
use Rattle.terminal.specs.declared.operation.Direction.TheVariants.{Up, Down, Right, Left}

pub data Op : Type 0 where
  move : Direction → ℕ → Op
  clear_line : Op
  write : List ℕ → Op
  write_return : Op
  write_line : List ℕ → Op
  flush : Op

-- ---- bytes, by ECMA-48
-- the final bytes of CUU, CUD, CUF, CUB
abbrev pub letter : Direction → ℕ
letter Up = 65
letter Down = 66
letter Right = 67
letter Left = 68

-- CSI, the number, the final byte
abbrev pub move_sequence : Direction → ℕ → List ℕ
move_sequence d n = 27 ∷ 91 ∷ (decimal n ++ letter d ∷ [])

-- CR, then EL with the parameter 2
abbrev pub clear_sequence : List ℕ
clear_sequence = 13 ∷ 27 ∷ 91 ∷ 50 ∷ 75 ∷ []

abbrev pub bytes : Op → List ℕ
bytes (move d n) = cond (n == 0) [] (move_sequence d n)
bytes clear_line = clear_sequence
bytes (write text) = text
-- CR
bytes write_return = 13 ∷ []
-- the text, LF
bytes (write_line text) = text ++ 10 ∷ []
bytes flush = []

abbrev pub cost : Op → ℕ
cost o = length (bytes o)

-- whether its text, if it has one, is admissible
abbrev pub fine : Op → Bool
fine (move d n) = true
fine clear_line = true
fine (write text) = admissible text
fine write_return = true
fine (write_line text) = admissible text
fine flush = true

-- ---- effects
abbrev pub below : Page → Page
below p = record { cells = p.cells; row = p.row + 1; column = 0 }

-- all rows move up, and a blank one enters
abbrev pub scrolled : ℕ → Page → Page
scrolled W p = record { cells = drop W p.cells ++ replicate W 32; row = p.row; column = 0 }

abbrev pub next_row : ℕ → ℕ → Page → Page
next_row W H p = cond (nat_lt (p.row + 1) H) (below p) (scrolled W p)

-- the page where k cells are free in the cursor's row
abbrev pub roomy : ℕ → ℕ → ℕ → Page → Page
roomy W H k p = cond (wraps W p.column k) (next_row W H p) p

-- the cell at the cursor takes v
abbrev pub celled : ℕ → ℕ → Page → Page
celled W v p = record { cells = slice_set p.cells (p.row * W + p.column) v; row = p.row; column = p.column + 1 }

-- a character c of k cells
abbrev pub inked : ℕ → ℕ → ℕ → ℕ → Page → Page
inked W H zero c p = p
inked W H (suc zero) c p = celled W c (roomy W H 1 p)
inked W H (suc (suc k)) c p = celled W 0 (celled W c (roomy W H 2 p))

abbrev pub written : ℕ → ℕ → (ℕ → ℕ) → List ℕ → Page → Page
written W H u cs p = fold (λ q c. inked W H (u c) c q) p cs

abbrev pub returned : Page → Page
returned p = record { cells = p.cells; row = p.row; column = 0 }

-- the n cells from the place i on become blank
abbrev pub blanked : ℕ → ℕ → List ℕ → List ℕ
blanked i n cells = take i cells ++ (replicate n 32 ++ drop (i + n) cells)

abbrev pub cleared : ℕ → Page → Page
cleared W p = record { cells = blanked (p.row * W) W p.cells; row = p.row; column = 0 }

-- column W becomes W - 1
abbrev pub off_edge : ℕ → ℕ → ℕ
off_edge W c = min c (W - 1)

abbrev pub moved : ℕ → ℕ → Direction → ℕ → Page → Page
moved W H Up n p = record { cells = p.cells; row = p.row - n; column = off_edge W p.column }
moved W H Down n p = record { cells = p.cells; row = min (p.row + n) (H - 1); column = off_edge W p.column }
moved W H Right n p = record { cells = p.cells; row = p.row; column = min (off_edge W p.column + n) (W - 1) }
moved W H Left n p = record { cells = p.cells; row = p.row; column = off_edge W p.column - n }

abbrev pub done : ℕ → ℕ → (ℕ → ℕ) → Op → Page → Page
done W H u (move d n) p = cond (n == 0) p (moved W H d n p)
done W H u clear_line p = cleared W p
done W H u (write text) p = written W H u (characters text) p
done W H u write_return p = returned p
done W H u (write_line text) p = next_row W H (written W H u (characters text) p)
done W H u flush p = p

abbrev pub effect : Op → Screen → Screen
effect o s = record { width = s.width; height = s.height; rule = s.rule; page = done s.width s.height s.rule o s.page }

abbrev pub effects : List Op → Screen → Screen
effects os s = fold (λ t o. effect o t) s os

-- one after the other, the bytes of operations
abbrev pub stream : List Op → List ℕ
stream os = flat_map bytes os
