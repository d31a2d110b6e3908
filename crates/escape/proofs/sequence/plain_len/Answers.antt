use Rattle.std.proofs.Common.{ℕ, ◌<◌, ◌≤◌, List, length, Some, None, Option, MatchOption, unwrap_or, rules}
use Rattle.std.proofs.lemmas.Iterator.{first_from_Range}
use Rattle.escape.specs.Pieces.{Opens}
use Rattle.escape.proofs.sequence.plain_len.Goals as goal

-- before the first place, or the end, no sequence begins
plain_up : (s : List ℕ) (r : Option ℕ)
    → MatchOption r ((k : ℕ) → 1 ≤ k → k < length s → Opens s k → ⊥) (λ i. (1 ≤ i) × (i < length s) × Opens s i × ((k : ℕ) → 1 ≤ k → k < i → Opens s k → ⊥))
    → (k : ℕ) → 0 < k → k < unwrap_or r (length s) → Opens s k → ⊥
plain_up s None h k p l = h k p l
plain_up s (Some i) h k p l = h.3 k p l

pub returns-clause-plain : goal.returns-clause-plain
returns-clause-plain c =
    let first = first_from_Range _ _ _ c.find.result (λ k. Opens c.args.s.now k) (λ k. Opens c.args.s.now k → ⊥) c.find.ensures.ran (λ x q k. search rules) (λ x q k. search rules) in
    rw c.unwrap_or.ensures (plain_up _ _ first)
