use Rattle.std.proofs.Common.{ℕ, List, [], Option, sym, ap, ◌∙◌, subst}
use Rattle.std.specs.Option.{option_map}
use Rattle.replay.specs.declared.command.Fault.TheVariants.{Words}
use Rattle.replay.specs.Faults.{Stops, surplus}
use Rattle.replay.specs.Grammar.{Phrase, end}
use Rattle.replay.proofs.arguments.Words.end.Goals as goal

pub returns-in-Some : goal.returns-in-Some
returns-in-Some c = subst (λ (r : Option (List ℕ)). Stops [] r Words) (ap (option_map (λ x. x.now)) (sym c.in-Some.is) ∙ c.self.view_is) surplus

pub returns-in-None : goal.returns-in-None
returns-in-None c = subst (λ (r : Option (List ℕ)). Phrase [] r) (ap (option_map (λ x. x.now)) (sym c.in-None.is) ∙ c.self.view_is) end
