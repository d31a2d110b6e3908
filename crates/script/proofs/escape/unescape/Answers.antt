use Rattle.std.proofs.Common.{sym, ◌∙◌, append_assoc, append-nil}
use Rattle.std.proofs.lemmas.Option.{MatchOption-at_some}
use Rattle.std.proofs.lemmas.Slice.{pushed}
use Rattle.script.specs.Escapes.{none}
use Rattle.script.proofs.Bytes.{spelt_push}
use Rattle.script.proofs.escape.unescape.Goals as goal

pub loop-b-init : goal.loop-b-init
loop-b-init c = (sym (append-nil _), rw (c.into_iter-b-iterator.ensures.into_iter_gives, c.new-b-items.ensures) none)

pub loop-b-preserved : goal.loop-b-preserved
loop-b-preserved c =
    let inv = c.loop-b.invariant in
    let added = pushed _ inv.0 c.in_ok-push.was c.push.ensures.items in
    (added ∙ append_assoc _ c.loop-b.yielded _, spelt_push inv.1 (MatchOption-at_some _ _ c.in-Some.b c.in-Some.is c.next.ensures.steps))
