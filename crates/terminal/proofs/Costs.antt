-- What a move costs, by the logarithm of its number. Assumes nothing.
use Rattle.std.proofs.Common.{◌≡◌, ℕ, zero, suc, ◌+◌, ◌*◌, ◌/◌, ◌%◌, ◌^◌, ◌<◌, ◌≤◌, List, [], ◌∷◌, ◌++◌, length, arith, length-append, decimal}
use Rattle.std.proofs.lemmas.Fmt.{decimal_by_steps, length-decimal-le}
use Rattle.terminal.specs.declared.operation.Direction.{Direction}
use Rattle.terminal.specs.Operations.{move, letter, cost}

ten_pos : (j : ℕ) → 0 < 10 ^ j
ten_pos zero = omega arith
ten_pos (suc j) = omega (arith, ten_pos j)

least_places : (k n : ℕ) → 10 ^ k ≤ n → n < 2 ^ 64 → k < length (decimal n)
least_places k n reaches fits = decimal_by_steps (λ m ds. (j : ℕ) → 10 ^ j ≤ m → j < length ds) one more n fits k reaches
  where
    one : (m : ℕ) → m < 10 → (j : ℕ) → 10 ^ j ≤ m → j < 1
    one m l zero a = omega arith
    one m l (suc j) a = omega (arith, ten_pos j)

    more : (m : ℕ) (ds : List ℕ) → 10 ≤ m → ((j : ℕ) → 10 ^ j ≤ m / 10 → j < length ds) → (j : ℕ) → 10 ^ j ≤ m → j < length (ds ++ ((48 + m % 10) ∷ []))
    more m ds l h zero a = omega (arith, length-append ds ((48 + m % 10) ∷ []))
    more m ds l h (suc j) a = omega (arith, length-append ds ((48 + m % 10) ∷ []), h j (omega arith))

decimal_places : (k n : ℕ) → 10 ^ k ≤ n → n < 10 * 10 ^ k → n < 2 ^ 64 → length (decimal n) ≡ k + 1
decimal_places k n reaches under fits = omega (arith, least_places k n reaches fits, length-decimal-le (suc k) n (omega arith) (omega arith) fits)

pub move_cost : (d : Direction) (k n : ℕ) → 10 ^ k ≤ n → n < 10 * 10 ^ k → n < 2 ^ 64 → k + 4 ≡ cost (move d n)
move_cost d k n reaches under fits = grind (arith, decimal_places k n reaches under fits, ten_pos k, length-append (decimal n) (letter d ∷ []))
