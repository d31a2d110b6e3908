-- What writes to the cells of a page leave.
use Rattle.std.proofs.Common.{◌≡◌, ℕ, ◌+◌, ◌-◌, ◌<◌, ◌≤◌, List, ◌++◌, length, take, drop, replicate, slice_set, sym, ap, ◌∙◌, append_assoc, arith, length-append, length-take, length-drop, take-append-drop, drop-drop}
use Rattle.std.proofs.lemmas.List.{take_at, drop_at, take-append-le, drop-append-le, length-replicate, length-take-le, drop-set-lt}
use Rattle.std.proofs.Math.Seq.{take-set-lt}
use borrow.Rule.Slice.PartMut.{put_mid}
use Rattle.terminal.specs.Operations.{blanked}

-- the first n cells became front, and the others stay
pub record Fronted (n : ℕ) (before after front : List ℕ) : Type 0 where
  pub first : take n after ≡ front
  pub rest : drop n after ≡ drop n before

fronted : (n : ℕ) (before after front : List ℕ) → length front ≡ n → after ≡ front ++ drop n before → Fronted n before after front
fronted n before after front long e = record {
  first = ap (take n) e ∙ take_at front (drop n before) n long;
  rest = ap (drop n) e ∙ drop_at front (drop n before) n long;
}

pub set_fronted : (n : ℕ) (cells : List ℕ) (i v : ℕ) → i < n → Fronted n cells (slice_set cells i v) (slice_set (take n cells) i v)
set_fronted n cells i v h = record { first = take-set-lt n cells i v h; rest = drop-set-lt n cells i v h }

length_blanked : (xs : List ℕ) (i n : ℕ) → i + n ≤ length xs → length (blanked i n xs) ≡ length xs
length_blanked xs i n fits = simp (length-append, length-take, length-drop, length-replicate) (omega arith)

blanked_left : (xs ys : List ℕ) (i n : ℕ) → i + n ≤ length xs → blanked i n (xs ++ ys) ≡ blanked i n xs ++ ys
blanked_left xs ys i n fits =
    ap (λ x. x ++ (replicate n 32 ++ drop (i + n) (xs ++ ys))) (take-append-le i xs ys (omega arith))
    ∙ ap (λ x. take i xs ++ (replicate n 32 ++ x)) (drop-append-le (i + n) xs ys fits)
    ∙ simp append_assoc

blanked_fronted : (m : ℕ) (cells : List ℕ) (i n : ℕ) → i + n ≤ m → m ≤ length cells → Fronted m cells (blanked i n cells) (blanked i n (take m cells))
blanked_fronted m cells i n low fits =
    let long = length-take-le m cells fits in
    fronted m cells (blanked i n cells) (blanked i n (take m cells)) (length_blanked (take m cells) i n (omega arith) ∙ long)
    (ap (blanked i n) (sym (take-append-drop m cells)) ∙ blanked_left (take m cells) (drop m cells) i n (omega arith))

-- a fill of the k cells from the place i on
pub filled_fronted : (m : ℕ) (cells part : List ℕ) (i k n : ℕ) → k ≡ n → i + n ≤ m → m ≤ length cells → part ≡ replicate n 32 → Fronted m cells (put_mid i k cells part) (blanked i n (take m cells))
filled_fronted m cells part i k n e low fits f = rw (f, e, drop-drop) (blanked_fronted m cells i n low fits)

-- a turn of the first m cells by n, and a fill of the last n of them
pub scrolled_fronted : (n m : ℕ) (cells turned part : List ℕ) (k : ℕ) → n ≤ m → m ≤ length cells → turned ≡ drop n (take m cells) ++ take n (take m cells) → k ≡ n → part ≡ replicate n 32
    → Fronted m cells (put_mid (m - n) k (turned ++ drop m cells) part) (drop n (take m cells) ++ replicate n 32)
scrolled_fronted n m cells turned part k h fits e f g =
    let long = length-take-le m cells fits in
    let up = drop n (take m cells) in
    let over = take n (take m cells) in
    let high : length up ≡ m - n = omega (arith, length-drop n (take m cells)) in
    let wide : length over ≡ k = omega (arith, length-take n (take m cells)) in
    let split : turned ++ drop m cells ≡ up ++ (over ++ drop m cells) = ap (λ l. l ++ drop m cells) e ∙ append_assoc up over (drop m cells) in
    fronted m cells _ (up ++ replicate n 32) (length-append up (replicate n 32) ∙ omega (arith, length-replicate {A = ℕ} n 32))
    ((λ i. take (m - n) (split i) ++ (g i ++ drop k (drop (m - n) (split i))))
    ∙ (λ i. take_at up (over ++ drop m cells) (m - n) high i ++ (replicate n 32 ++ drop k (drop_at up (over ++ drop m cells) (m - n) high i)))
    ∙ ap (λ l. up ++ (replicate n 32 ++ l)) (drop_at over (drop m cells) k wide)
    ∙ sym (append_assoc up (replicate n 32) (drop m cells)))
