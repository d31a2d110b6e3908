-- One line of a script.
use Rattle.std.proofs.Common.{◌≡◌, ℕ, List, [], ◌++◌, Some, None, Option, Err, ok_or, sym, refl, ap, ◌∙◌, subst}
use Rattle.std.specs.Option.{option_map}
use Rattle.trace.specs.declared.answer.Answer.{Answer}
use Rattle.replay.specs.declared.command.Command.{Command}
use Rattle.replay.specs.Commands.{Understood, written, said}
use Rattle.script.specs.Escapes.{Means}
use Rattle.replay.specs.Orders.{Order, measure, admit, limiter, limiter_allow, position, position_allow, position_reset, position_set, position_get}
use Rattle.replay.proofs.Renders.{said_is}
use Rattle.runner.specs.Answers.{State, answer, after, with_limiter, with_position}
use Rattle.runner.specs.declared.stop.Halt.{Halt}
use Rattle.runner.specs.declared.stop.Halt.TheVariants as halts
use Rattle.runner.specs.Runs.{Played}
use Rattle.runner.specs.Stops.{Halted}

missing_is : (r : Option Answer) (h : Halt) → r ≡ None → Err h ≡ ok_or r halts.Missing → halts.Missing ≡ h
missing_is None h e f = cc
missing_is (Some a) h e f = cc

same_mapped : {X Y : Type 0} (f : X → Y) (g : X → X) (o : Option X) → option_map f o ≡ None → option_map g o ≡ o
same_mapped f g None e = refl
same_mapped f g (Some x) e = cc

-- where a limiter is missing nothing changes
unanswered : (s : State) (o : Order) → answer s o ≡ None → after s o ≡ s
unanswered s (measure w u t) e = cc
unanswered s (admit t) e = cc
unanswered s (limiter r t0) e = cc
unanswered s (limiter_allow n) e = ap (λ l. with_limiter l s) (same_mapped _ _ s.limiter e)
unanswered s (position n) e = cc
unanswered s (position_allow n) e = ap (λ p. with_position p s) (same_mapped _ _ s.position e)
unanswered s (position_reset n) e = ap (λ p. with_position p s) (same_mapped _ _ s.position e)
unanswered s (position_set n) e = ap (λ p. with_position p s) (same_mapped _ _ s.position e)
unanswered s position_get e = refl

module _ (line bs ts : List ℕ) (c : Command) (s t : State) (r : Option Answer) (u : Understood line c) (m : Means (written c) bs) (e : ts ≡ [] ++ bs) (p : r ≡ answer s (said c ts)) (q : t ≡ after s (said c ts)) where
  order_is : u.order ≡ said c ts
  order_is = said_is bs u.says m ∙ ap (said c) (sym e)

  pub played : (a : Answer) → r ≡ Some a → Played s line a t
  played a h = record { order = u.order; spelled = u.spelled; answered = ap (answer s) order_is ∙ sym p ∙ h; left = q ∙ ap (after s) (sym order_is) }

  -- no answer stops the run, as a limiter that is missing
  pub lacking : (now : List ℕ) (h : Halt) → r ≡ None → Err h ≡ ok_or r halts.Missing → Halted s line t now now h
  lacking now h none f =
      let n : answer s u.order ≡ None = ap (answer s) order_is ∙ sym p ∙ none in
      subst (Halted s line t now now) (missing_is r h none f) (record { order = u.order; spelled = u.spelled; unanswered = n }, q ∙ ap (after s) (sym order_is) ∙ unanswered s u.order n, refl)
