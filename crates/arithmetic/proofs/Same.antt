-- The library's wrapping at 64 bits is that of the contracts.
-- Assumes nothing.
use Rattle.std.proofs.Common.{◌≡◌, ℕ, suc, ◌-◌, ◌^◌, cond, ltb, ℤ, pos, negsuc, ap, arith, w64}
use Rattle.std.specs.Int.{int_wrap}
use Rattle.numbers.specs.Wrap.{residue, wrap}

last : (n : ℕ) → cond (ltb n (2 ^ 63)) (pos n) (negsuc (2 ^ 64 - suc n)) ≡ cond (ltb n (2 ^ 63)) (pos n) (negsuc (2 ^ 64 - 1 - n))
last n = ap (λ (k : ℕ). cond (ltb n (2 ^ 63)) (pos n) (negsuc k)) (omega arith)

pub wrap-is : (z : ℤ) → int_wrap w64 z ≡ wrap z
unfolding int_wrap wrap
wrap-is (pos n) = last (residue (pos n))
wrap-is (negsuc n) = last (residue (negsuc n))
