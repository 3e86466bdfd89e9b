-- A list that was filled with one value, as one that was written out from a function.
-- Assumes nothing.
use Rattle.std.proofs.Common.{◌≡◌, ℕ, zero, suc, ◌≤◌, ◌∷◌, replicate, refl, ap, arith}
use lib.ListN.{take}
use Rattle.numbers.specs.Grid.{tabulate}

pub filled : {A : Type 0} (n : ℕ) (v : A) → replicate n v ≡ tabulate n (λ k. v)
unfolding tabulate
filled zero v = refl
filled (suc n) v = ap (λ l. v ∷ l) (filled n v)

-- and a part of it
pub filled-part : {A : Type 0} (m n : ℕ) (v : A) → m ≤ n → take m (replicate n v) ≡ tabulate m (λ k. v)
unfolding tabulate
filled-part zero n v h = refl
filled-part (suc m) zero v h = absurd (omega arith)
filled-part (suc m) (suc n) v h = ap (λ l. v ∷ l) (filled-part m n v (omega arith))
