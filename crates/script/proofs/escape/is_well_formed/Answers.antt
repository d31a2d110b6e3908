use Rattle.std.proofs.Common.{◌≡◌, [], None, arith}
use Rattle.std.proofs.lemmas.Bool.Decides.{Decides-at}
use Rattle.std.proofs.lemmas.Option.{MatchOption-at_none}
use Rattle.script.specs.Escapes.{none}
use Rattle.script.proofs.Bytes.{spelt_on, well_formed_is}
use Rattle.script.proofs.escape.is_well_formed.Goals as goal

pub loop-init : goal.loop-init
loop-init c = ([], rw c.new-bytes.ensures none)

pub loop-preserved : goal.loop-preserved
loop-preserved c = spelt_on c.next.result (cc) c.loop.invariant.1 c.next.ensures.steps

pub returns : goal.returns
returns c =
    let end : c.next.result ≡ None = grind arith in
    let none = MatchOption-at_none _ _ end c.next.ensures.steps in
    let empty = rw (c.bytes.view_is, none.1) at c.is_empty.ensures in
    Decides-at _ _ empty (well_formed_is c.loop.invariant.1 none.0)
