use Rattle.std.proofs.Common.{refl}
use Rattle.std.proofs.lemmas.List.{take_rest}
use Rattle.escape.proofs.Division.{ended, given_next, colour_cut, plain_cut, divided}
use Rattle.escape.proofs.pieces.cut.Goals as goal

pub returns-then-is_empty-clause-all : goal.returns-then-is_empty-clause-all
returns-then-is_empty-clause-all c = λ ps g. divided _ ps _ (ended c.args.line.now c.args.from c.requires c.if-is_empty.ensures) g

pub returns-in-Some-clause-cut : goal.returns-in-Some-clause-cut
returns-in-Some-clause-cut c = colour_cut c.args.line.now c.args.from c.in-Some.n _ _ c.requires (take_rest c.args.line.now c.args.from) refl c.in-Some.ensures.found

pub returns-in-Some-clause-all : goal.returns-in-Some-clause-all
returns-in-Some-clause-all c = given_next _ _ _ _ (returns-in-Some-clause-cut c)

pub returns-in-None-clause-cut : goal.returns-in-None-clause-cut
returns-in-None-clause-cut c =
    let run = c.plain_len.ensures in
    plain_cut c.args.line.now c.args.from c.plain_len.result _ _ c.requires (take_rest c.args.line.now c.args.from) refl run.within.0 run.within.1 c.in-None.ensures.found run.plain run.next

pub returns-in-None-clause-all : goal.returns-in-None-clause-all
returns-in-None-clause-all c = given_next _ _ _ _ (returns-in-None-clause-cut c)
