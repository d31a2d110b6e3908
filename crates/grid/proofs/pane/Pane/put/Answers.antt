use Rattle.std.proofs.Common.{refl, ap, ◌+◌, ◌*◌}
use Rattle.std.proofs.lemmas.Nat.{mul-add-lt}
use Rattle.grid.proofs.Panes.{set_fronted}
use Rattle.grid.specs.Panes.{area}
use Rattle.grid.proofs.pane.Pane.put.Goals as goal

pub returns-clause-turned : goal.returns-clause-turned
returns-clause-turned c =
    let s = c.args.self.now in
    let f = set_fronted (area s) s.cells.now (s.row * s.width + s.column) c.args.v (mul-add-lt s.row s.width s.column s.height c.requires.fits.row_in c.requires.room) in
    record {
      page = ap (λ cells. record { cells = cells; row = s.row; column = s.column + 1 }) f.first;
      rest = f.rest;
      lender = refl;
      width = refl;
      height = refl;
    }
