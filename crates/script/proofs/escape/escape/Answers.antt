use Rattle.std.proofs.Common.{◌≡◌, ℕ, List, get_or, arith, rules}
use Rattle.script.proofs.Bytes.{backslash_at, newline_at, coded_at, no_escape}
use Rattle.script.proofs.escape.escape.Goals as goal

pub returns-in_err-hex-in-120-2 : goal.returns-in_err-hex-in-120-2
returns-in_err-hex-in-120-2 c =
    let s : List ℕ = c.args.text.now in
    let e : get_or s 0 0 ≡ 120 = search rules in
    simp c.from_residual-in_err-hex-in-120-2.ensures (no_escape s (λ _ h. omega arith) (λ _ h. omega arith) (λ _ _ _ h. c.in_err-hex-in-120-2.ensures h))

pub returns-in_ok-hex-in-120-2 : goal.returns-in_ok-hex-in-120-2
returns-in_ok-hex-in-120-2 c = coded_at c.args.text.now _ _ (search rules) (search rules) c.in_ok-hex-in-120.ensures c.in_ok-hex-in-120-2.ensures

pub returns-in-110 : goal.returns-in-110
returns-in-110 c = newline_at c.args.text.now (search rules) (search rules)

pub returns-in-92 : goal.returns-in-92
returns-in-92 c = backslash_at c.args.text.now (search rules) (search rules)
