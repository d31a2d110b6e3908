use Rattle.std.proofs.Common.{ap, ◌∙◌, refl}
use Rattle.replay.specs.Grammar.{raw}
use Rattle.replay.proofs.Taking.{raw_is, took_text}
use Rattle.replay.proofs.arguments.Words.text.Goals as goal

pub returns : goal.returns
returns c =
    let e = ap (λ t. t.now) c.unwrap_or-text.ensures ∙ raw_is c.self.inside.rest _ refl ∙ ap raw c.self.view_is in
    rw (c.ok_or.ensures.value, c.then_some.ensures) (took_text c.args.self c.is_well_formed.result c.unwrap_or-text.result c.is_well_formed.ensures e)
