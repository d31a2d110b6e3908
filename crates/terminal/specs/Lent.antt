-- A terminal behind a reference. Assumes nothing.
use Rattle.std.specs.Prelude.{◌≡◌, ℕ, Option}
use Rattle.std.specs.Borrow.{MutBor}
use Rattle.terminal.specs.Screen.{Screen}
use Rattle.terminal.specs.Operations.{Op}
use Rattle.terminal.specs.Steps.{TermLaws}

-- a step of the terminal behind, through the same reference
pub record LentStep {T : Type 0} (steps : Op → T → T → Type 0) (o : Op) (s t : MutBor T) : Type 0 where
  pub behind : steps o s.now t.now
  pub lender : t.ghost_name ≡ s.ghost_name

pub lent_laws : {T : Type 0} {meaning : T → Screen} {funds : T → Option ℕ} {steps : Op → T → T → Type 0} → TermLaws meaning funds steps → TermLaws {T = MutBor T} (λ s. meaning s.now) (λ s. funds s.now) (LentStep steps)
lent_laws l = record {
  sound = λ s. l.sound s.now;
  effects = λ o s t h. l.effects o s.now t.now h.behind;
  costs = λ o s t h. l.costs o s.now t.now h.behind;
}
