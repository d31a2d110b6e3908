use Rattle.std.proofs.Common.{◌≡◌, ◌<◌, ◌≢◌, length, MatchOption, rules, tests, add-one, arith}
use Rattle.std.specs.List.{AllWithin, HoldsAt}
use Rattle.std.proofs.lemmas.Iterator.{IsFirst-from_position, YieldsList-from_slice}
use Rattle.std.proofs.lemmas.List.{take_rest}
use Rattle.std.proofs.lemmas.Option.{MatchOption-at_some, MatchOption-at_none}
use Rattle.script.proofs.Cutting.{cut_found, cut_nowhere}
use Rattle.script.proofs.lines.cut.Goals.{After-position}
use Rattle.script.proofs.lines.cut.Goals as goal

first : (c : After-position) → MatchOption c.position.result (AllWithin (λ b. b ≢ c.args.at) c.args.bytes.now 0 (length c.args.bytes.now)) (λ i. (i < length c.args.bytes.now) × HoldsAt (λ b. b ≡ c.args.at) c.args.bytes.now i × AllWithin (λ b. b ≢ c.args.at) c.args.bytes.now 0 i)
first c = IsFirst-from_position _ _ _ (λ b. b ≡ c.args.at) (λ b. b ≢ c.args.at) c.position.ensures.ran (YieldsList-from_slice c.args.bytes.now cc) (λ x q k. search (rules, tests)) (λ x q k. search (rules, tests))

pub returns-in-Some : goal.returns-in-Some
returns-in-Some c =
    let found = MatchOption-at_some _ _ c.in-Some.i c.in-Some.is (first (goal.at.returns-in-Some c).After-position) in
    simp (take_rest, add-one) (cut_found c.args.at c.args.bytes.now c.in-Some.i found.0 (λ k h. found.2 k 0 (omega arith) h) (found.1 0))

pub returns-in-None : goal.returns-in-None
returns-in-None c =
    let none = MatchOption-at_none _ _ c.in-None.is (first (goal.at.returns-in-None c).After-position) in
    cut_nowhere c.args.at c.args.bytes.now (λ k h. none k 0 (omega arith) h)
