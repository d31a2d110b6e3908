-- What a grid shows, its steps, and its making.
use Rattle.std.specs.Prelude.{◌≡◌, ℕ, ◌*◌, List, drop, None, Option, refl}
use Rattle.std.proofs.lemmas.List.{length-take-le}
use Rattle.std.specs.Borrow.{MutBor}
use Rattle.text.specs.Width.{Rule}
use Rattle.terminal.specs.Screen.{Screen, blank}
use Rattle.terminal.specs.Operations.{Op, effect}
use Rattle.terminal.specs.Steps.{TermLaws}
use Rattle.grid.specs.declared.Grid.{Grid}
use Rattle.grid.specs.Panes.{area, page, rest}

module _ {R : Type 0} (cells : R → ℕ → ℕ) where
  abbrev pub screen : Grid R → Screen
  screen g = record { width = g.pane.width; height = g.pane.height; rule = cells g.rule; page = page g.pane }

  -- unlimited
  abbrev pub funds : Grid R → Option ℕ
  funds g = None

  -- an operation has its effect on the screen; the cells behind it stay, and all are the borrowed ones
  pub record GridStep (o : Op) (s t : Grid R) : Type 0 where
    pub shows : screen t ≡ effect o (screen s)
    pub rest : rest t.pane ≡ rest s.pane
    pub lender : t.pane.cells.ghost_name ≡ s.pane.cells.ghost_name

  pub grid_laws : ((rule : R) → Rule (cells rule)) → TermLaws screen funds GridStep
  grid_laws lawful = record {
    sound = λ g. record {
      wide = g.fits.wide;
      narrow = g.fits.narrow;
      tall = g.fits.tall;
      low = g.fits.low;
      rule = lawful g.rule;
      area = length-take-le (area g.pane) g.pane.cells.now g.fits.area;
      row_in = g.fits.row_in;
      column_in = g.fits.column_in;
    };
    effects = λ o s t h. h.shows;
    costs = λ o s t h. refl;
  }

  -- g is a blank grid on the borrowed cells, of which those behind its screen stay as they were
  pub record Made (W H : ℕ) (rule : R) (before : MutBor (List ℕ)) (g : Grid R) : Type 0 where
    pub shows : screen g ≡ blank W H (cells rule)
    pub rest : rest g.pane ≡ drop (W * H) before.now
    pub lender : g.pane.cells.ghost_name ≡ before.ghost_name
