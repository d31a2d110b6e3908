-- A terminal with a credit of its own. Assumes nothing.
use Rattle.std.specs.Prelude.{◌≡◌, ℕ, min, Some, None, Option, refl}
use Rattle.std.proofs.Common.{ap, arith}
use Rattle.terminal.specs.Screen.{Screen}
use Rattle.terminal.specs.Operations.{Op, cost}
use Rattle.terminal.specs.Steps.{TermLaws, paid}

pub record Allowed (T : Type 0) : Type 0 where
  -- the terminal below
  pub term : T
  -- a number of bytes, or None for unlimited
  pub credit : Option ℕ

-- the smaller of two credits
abbrev pub smaller : Option ℕ → Option ℕ → Option ℕ
smaller (Some m) (Some n) = Some (min m n)
smaller (Some m) None = Some m
smaller None credit = credit

-- a step of the terminal below, paid from the own credit too
pub record AllowedStep {T : Type 0} (steps : Op → T → T → Type 0) (o : Op) (s t : Allowed T) : Type 0 where
  pub below : steps o s.term t.term
  pub own : t.credit ≡ paid s.credit (cost o)

smaller_paid : (a b : Option ℕ) (n : ℕ) → smaller (paid a n) (paid b n) ≡ paid (smaller a b) n
smaller_paid (Some i) (Some j) n = ap Some (omega arith)
smaller_paid (Some i) None n = refl
smaller_paid None b n = refl

pub allowed_laws : {T : Type 0} {meaning : T → Screen} {funds : T → Option ℕ} {steps : Op → T → T → Type 0} → TermLaws meaning funds steps → TermLaws {T = Allowed T} (λ s. meaning s.term) (λ s. smaller s.credit (funds s.term)) (AllowedStep steps)
allowed_laws {funds = funds} l = record {
  sound = λ s. l.sound s.term;
  effects = λ o s t h. l.effects o s.term t.term h.below;
  costs = λ o s t h. rw (h.own, l.costs o s.term t.term h.below) (smaller_paid s.credit (funds s.term) (cost o));
}
