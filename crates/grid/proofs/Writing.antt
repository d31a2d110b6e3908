-- What a loop over the characters of a text keeps of the pane it writes to.
use Rattle.std.proofs.Common.{◌≡◌, ℕ, true, List}
use Rattle.text.specs.declared.characters.Characters.{Characters}
use Rattle.text.specs.Characters.{readable, left}
use Rattle.text.specs.Texts.{characters}
use Rattle.terminal.specs.Operations.{written}
use Rattle.grid.specs.declared.pane.Pane.{Pane}
use Rattle.grid.specs.Panes.{page, Fits, Turned}

module _ (u : ℕ → ℕ) (bs : List ℕ) (s : Pane) where
  -- what is left to write takes t to where the text takes s
  pub record Writing (it : Characters) (t : Pane) : Type 0 where
    pub fits : Fits t
    pub readable : readable it.reader it.rest.now ≡ true
    pub turned : Turned (page t) s t
    pub same : written s.width s.height u (left it.reader it.rest.now) (page t) ≡ written s.width s.height u (characters bs) (page s)
