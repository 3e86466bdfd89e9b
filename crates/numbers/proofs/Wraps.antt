-- The laws of sums that wrap at 64 bits.
-- A law of sums that wrap is shown at the residues, which are natural numbers, where `omega` goes: `wrap-eq`, with `residue-add`,
-- `residue-sub` and `residue-wrap`.
use mathlib.Core.Path.{◌≡◌, refl, sym, ap, ◌∙◌}
use Prim.Native.Nat.{ℕ, zero, suc, ◌+◌, ◌-◌, ◌%◌, ◌^◌, ◌≤◌, ◌<◌}
use native.Mathlib.Omega.{arith}
use native.Mathlib.Decide.{dec_lt}
use lib.IntN.{ℤ, pos, negsuc, nat_abs, ◌+ℤ◌, ◌-ℤ◌, neg_ℤ, sub_ℕ, +ℤ_assoc, +ℤ_comm}
use borrow.Author.Tests.{lt-ltb, le-ltb}
use mir.Syntax.{w64}
use mir.Val.{SFits}
use Rattle.numbers.specs.Wrap.{residue, spelled, wrap}
use Rattle.numbers.proofs.Magnitudes.{fits64}

pub residue-lt : (z : ℤ) → residue z < 2 ^ 64
residue-lt (pos n) = omega arith
residue-lt (negsuc n) = omega arith

pub data Order (a b : ℕ) : Type 0 where
  below : a < b → Order a b
  above : b ≤ a → Order a b

order-of : (a b : ℕ) → Dec (a < b) → Order a b
order-of a b (yes h) = below h
order-of a b (no f) = above (omega arith)

pub order : (a b : ℕ) → Order a b
order a b = order-of a b (dec_lt a b)

pub spelled-low : (n : ℕ) → n < 2 ^ 63 → spelled n ≡ pos n
spelled-low n h = simp (lt-ltb n (2 ^ 63) h)

pub spelled-high : (n : ℕ) → 2 ^ 63 ≤ n → spelled n ≡ negsuc (2 ^ 64 - 1 - n)
spelled-high n h = simp (le-ltb n (2 ^ 63) h)

residue-spelled-by : (n : ℕ) → n < 2 ^ 64 → Order n (2 ^ 63) → residue (spelled n) ≡ n
residue-spelled-by n h (below l) = ap residue (spelled-low n l) ∙ (omega arith)
residue-spelled-by n h (above l) = ap residue (spelled-high n l) ∙ (omega arith)

pub residue-spelled : (n : ℕ) → n < 2 ^ 64 → residue (spelled n) ≡ n
residue-spelled n h = residue-spelled-by n h (order n (2 ^ 63))

pub residue-wrap : (z : ℤ) → residue (wrap z) ≡ residue z
unfolding wrap
residue-wrap z = residue-spelled (residue z) (residue-lt z)

pub wrap-eq : (x y : ℤ) → residue x ≡ residue y → wrap x ≡ wrap y
unfolding wrap
wrap-eq x y e = ap spelled e

pub sub_low : (a b : ℕ) → a < b → sub_ℕ a b ≡ negsuc (b - suc a)
sub_low a b h = simp (lt-ltb a b h)

pub sub-high : (a b : ℕ) → b ≤ a → sub_ℕ a b ≡ pos (a - b)
sub-high a b h = simp (le-ltb a b h)

residue-sub-by : (a b : ℕ) → Order a (suc b) → residue (sub_ℕ a (suc b)) ≡ (residue (pos a) + residue (negsuc b)) % 2 ^ 64
residue-sub-by a b (below h) = ap residue (sub_low a (suc b) h) ∙ (omega arith)
residue-sub-by a b (above h) = ap residue (sub-high a (suc b) h) ∙ (omega arith)

pub residue-add : (x y : ℤ) → residue (x +ℤ y) ≡ (residue x + residue y) % 2 ^ 64
residue-add (pos a) (pos b) = omega arith
residue-add (pos a) (negsuc b) = residue-sub-by a b (order a (suc b))
residue-add (negsuc a) (pos b) =
    residue-sub-by b a (order b (suc a)) ∙ (omega arith)
residue-add (negsuc a) (negsuc b) = omega arith

pub residue-neg : (z : ℤ) → residue (neg_ℤ z) ≡ (2 ^ 64 - residue z) % 2 ^ 64
residue-neg (pos zero) = refl
residue-neg (pos (suc n)) = omega arith
residue-neg (negsuc n) = omega arith

pub residue-sub : (x y : ℤ) → residue (x -ℤ y) ≡ (residue x + (2 ^ 64 - residue y)) % 2 ^ 64
residue-sub x y = residue-add x (neg_ℤ y) ∙ omega (arith, residue-neg y)

pub wrap-add : (x y : ℤ) → wrap (wrap x +ℤ y) ≡ wrap (x +ℤ y)
wrap-add x y = wrap-eq _ _ (omega (arith, residue-add (wrap x) y, residue-add x y, residue-wrap x))

pub wrap-sub : (x y : ℤ) → wrap (wrap x -ℤ y) ≡ wrap (x -ℤ y)
wrap-sub x y = wrap-eq _ _ (omega (arith, residue-sub (wrap x) y, residue-sub x y, residue-wrap x))

-- a number that fits stays
pub wrap-fits : (z : ℤ) → SFits w64 z → wrap z ≡ z
unfolding wrap
wrap-fits (pos n) f =
    let h : n < 2 ^ 63 = f.sfits in
    let e : n % 2 ^ 64 ≡ n = omega arith in
    ap spelled e ∙ spelled-low n h
wrap-fits (negsuc n) f =
    let h : n < 2 ^ 63 = f.sfits in
    let e : 2 ^ 64 - 1 - n % 2 ^ 64 ≡ 2 ^ 64 - 1 - n = omega arith in
    let e2 : 2 ^ 64 - 1 - (2 ^ 64 - 1 - n) ≡ n = omega arith in
    ap spelled e ∙ spelled-high (2 ^ 64 - 1 - n) (omega arith) ∙ ap negsuc e2

sfits-spelled-by : (n : ℕ) → n < 2 ^ 64 → Order n (2 ^ 63) → SFits w64 (spelled n)
sfits-spelled-by n h (below l) = rw (spelled-low n l) (record { sfits = l })
sfits-spelled-by n h (above l) = rw (spelled-high n l) (record { sfits = omega arith })

-- what wraps fits
pub sfits-wrap : (z : ℤ) → SFits w64 (wrap z)
unfolding wrap
sfits-wrap z = sfits-spelled-by (residue z) (residue-lt z) (order (residue z) (2 ^ 63))

pub wrap-add-right : (x y : ℤ) → wrap (x +ℤ wrap y) ≡ wrap (x +ℤ y)
wrap-add-right x y = ap wrap (+ℤ_comm x (wrap y)) ∙ wrap-add y x ∙ ap wrap (+ℤ_comm y x)

-- the sum of two that are wrapped
pub wrap-both : (x y : ℤ) → wrap (wrap x +ℤ wrap y) ≡ wrap (x +ℤ y)
wrap-both x y = wrap-add-right (wrap x) y ∙ wrap-add x y

pub wrap-small : (x : ℤ) → nat_abs x < 2 ^ 63 → wrap x ≡ x
wrap-small x h = wrap-fits x (fits64 x h)
