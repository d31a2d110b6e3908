use Rattle.std.proofs.Common.{refl, ap, ◌+◌, ◌-◌, ◌*◌, ◌∙◌, ◌≡◌, ◌≤◌, arith, length, length-take, length-drop, replicate, take, drop}
use Rattle.std.proofs.lemmas.Nat.{row_fits_turned}
use Rattle.grid.proofs.Panes.{filled_fronted}
use Rattle.grid.specs.Panes.{area}
use Rattle.grid.proofs.pane.Pane.clear_row.Goals as goal

pub returns-clause-turned : goal.returns-clause-turned
returns-clause-turned c =
    let s = c.args.self.now in
    let start = s.row * s.width in
    let in_area : start + s.width ≤ area s = row_fits_turned s.row s.width s.width s.height c.requires.row_in (omega arith) in
    let long : length (take (start + s.width - start) (drop start s.cells.now)) ≡ s.width = simp (length-take, length-drop) (omega (arith, in_area, c.requires.area)) in
    let f = filled_fronted (area s) s.cells.now c.fill.new.self start (start + s.width - start) s.width (omega arith) in_area c.requires.area (c.fill.ensures.after (λ y e. e) ∙ ap (λ n. replicate n 32) long) in
    record {
      page = ap (λ cells. record { cells = cells; row = s.row; column = 0 }) f.first;
      rest = f.rest;
      lender = refl;
      width = refl;
      height = refl;
    }
