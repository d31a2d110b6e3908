use Rattle.std.proofs.Common.{ℕ, ◌+◌, ◌/◌, ◌%◌, List, [], ◌∷◌, vec_items, decimal, sym, subst, arith, rules}
use Rattle.std.proofs.lemmas.Fmt.{decimal_digit, decimal_step}
use Rattle.trace.specs.Appends.{Appends}
use Rattle.trace.proofs.Appending.{and_then, front_more, stopped_at}
use Rattle.trace.proofs.put.+put_decimal.Goals as goal

pub returns-then-n-lt10 : goal.returns-then-n-lt10
returns-then-n-lt10 t c =
    subst (λ (l : List ℕ). Appends l (vec_items c.args.out.now) c.put.result (vec_items c.put.new.out)) (sym (decimal_digit c.args.n (omega arith))) c.put.ensures

pub returns-in_err-put_decimal : goal.returns-in_err-put_decimal
returns-in_err-put_decimal t c =
    let step = decimal_step c.args.n (omega arith) (search rules) in
    let r = c.from_residual.result in
    let v = vec_items c.put_decimal.new.out in
    subst (λ (l : List ℕ). Appends l (vec_items c.args.out.now) r v) (sym step) (stopped_at r c.from_residual.ensures.0 (front_more _ c.in_err-put_decimal.ensures))

pub returns : goal.returns
returns t c =
    let n : ℕ = c.args.n in
    let step = decimal_step n (omega arith) (search rules) in
    let s = vec_items c.args.out.now in
    let v = vec_items c.put-2.new.out in
    subst (λ (l : List ℕ). Appends l s c.put-2.result v) (sym step) (and_then (decimal (n / 10)) ((48 + n % 10) ∷ []) s v c.put-2.result c.in_ok-put_decimal.ensures c.put-2.ensures)
