use Rattle.std.proofs.Common.{refl, ap, ◌-◌, ◌∙◌, ◌≡◌, ◌≤◌, ◌++◌, arith, length, length-take, length-drop, length-append, replicate, take, drop}
use Rattle.std.proofs.lemmas.Nat.{row_fits_turned}
use Rattle.grid.proofs.Panes.{scrolled_fronted}
use Rattle.grid.specs.Panes.{area}
use Rattle.grid.proofs.pane.Pane.scroll.Goals as goal

pub returns-clause-turned : goal.returns-clause-turned
returns-clause-turned c =
    let s = c.args.self.now in
    let some : s.width ≤ area s = omega (arith, row_fits_turned s.row s.width s.width s.height c.requires.row_in (omega arith)) in
    let long : length (take (area s - (area s - s.width)) (drop (area s - s.width) (c.rotate_left.new.self ++ drop (area s) s.cells.now))) ≡ s.width =
    simp (length-take, length-drop, length-append) (omega (arith, c.rotate_left.ensures.len, length-take (area s) s.cells.now, c.requires.area, some)) in
    let f = scrolled_fronted s.width (area s) s.cells.now c.rotate_left.new.self c.fill.new.self (area s - (area s - s.width)) some c.requires.area c.rotate_left.ensures.after (omega (arith, some))
    (c.fill.ensures.after (λ y e. e) ∙ ap (λ n. replicate n 32) long) in
    record {
      page = ap (λ cells. record { cells = cells; row = s.row; column = 0 }) f.first;
      rest = f.rest;
      lender = refl;
      width = refl;
      height = refl;
    }
