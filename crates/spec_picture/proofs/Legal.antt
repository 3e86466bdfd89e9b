-- The numbers of a legal window's shape.
-- Assumes nothing.
use mathlib.Core.Path.{◌≡◌, refl}
use mathlib.Core.Bool.{◌&&◌}
use Prim.Native.Nat.{◌≤◌}
use native.Mathlib.Omega.{arith}
use lib.Dec.{T, leb→le}
use lib.IntN.{ℤ, pos, negsuc, nat_abs, ◌+ℤ◌}
use lib.Signed.{le_z}
use Rattle.numbers.proofs.Integers.{dn, add-law, of_le, leℤ}
use Rattle.numbers.proofs.Tests.{and_left, and_right, and_both}
use Rattle.spec_picture.specs.Window.{between, hexagon_legal}

nonneg : (k : ℤ) → T (le_z (pos 0) k) → dn k ≡ 0
nonneg (pos n) t = refl
nonneg (negsuc n) t = absurd t

-- a hexagon's numbers are from 0 to 127 each
pub hexagon-parts : (k h : ℤ) → T (hexagon_legal k h) → T (between (pos 0) (pos 127) k) × T (between (pos 0) (pos 127) h)
unfolding hexagon_legal
hexagon-parts k h t =
    let a = le_z (pos 0) k in
    let b = le_z (pos 0) h in
    let ab = and_left (a && b) (le_z (k +ℤ h) (pos 127)) t in
    let ka = and_left a b ab in
    let hb = and_right a b ab in
    let s = of_le {x = k +ℤ h} {y = pos 127} (record { le = and_right (a && b) (le_z (k +ℤ h) (pos 127)) t }) in (
      and_both a (le_z k (pos 127)) ka (leℤ k (pos 127) (omega (arith, s, add-law k h, nonneg k ka, nonneg h hb))).le,
      and_both b (le_z h (pos 127)) hb (leℤ h (pos 127) (omega (arith, s, add-law k h, nonneg k ka, nonneg h hb))).le,
    )

-- a number from 0 to 127
pub to-127 : (x : ℤ) → T (between (pos 0) (pos 127) x) → nat_abs x ≤ 127
to-127 (pos n) t = leb→le n 127 (and_right (le_z (pos 0) (pos n)) (le_z (pos n) (pos 127)) t)
to-127 (negsuc n) t = absurd (and_left (le_z (pos 0) (negsuc n)) (le_z (negsuc n) (pos 127)) t)
