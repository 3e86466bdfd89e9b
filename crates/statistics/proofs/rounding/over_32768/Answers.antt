-- `statistics::rounding::over_32768` meets its contract. Assumes nothing.
use mathlib.Core.Path.{◌≡◌, refl, ap, ◌∙◌}
use mathlib.Core.Bool.{Bool, true, false}
use Prim.Native.Nat.{ℕ, suc, ◌*◌, ◌≤◌}
use native.Mathlib.Omega.{arith}
use native.Mathlib.Nat.{mul-pos}
use lib.Dec.{lit<}
use lib.IntN.{ℤ, pos, negsuc, nat_abs}
use lib.Ieee.{Float, nan, inf, fin, binary32, up, down, round, div, of_int, of_bits, unlike}
use lib.Ieee.Exact.{HasValue}
use lib.Ieee.Scale.{round_same}
use lib.Ieee.Back.{round_whole}
use lib.Ieee.Fits.{down_pos}
use mir.Facts.{to_z-of_z}
use Rattle.spec_statistics.specs.Voice.{over32768}
use Rattle.statistics.proofs.rounding.over_32768.Goals as goal

like : (t : Bool) → unlike t false ≡ t
like true = refl
like false = refl

-- a float of value n, divided by 32768, is the float nearest to n / 32768
divide : (x : Float) (s : Bool) (n : ℕ) → HasValue x s n 1 → div binary32 x (fin false 1 (pos 15)) ≡ round binary32 s n 32768
unfolding div
divide nan s n v = absurd v
divide (inf t) s n v = absurd v
divide (fin t m e) s n v =
    ap (λ (b : Bool). round binary32 b (m * up e * 1) (32768 * down e)) (like t ∙ v.0)
    ∙ round_same binary32 s (m * up e * 1) (32768 * down e) n 32768 (mul-pos (lit< tt) (down_pos e)) (lit< tt) (omega (arith, ap (λ (x : ℕ). 32768 * x) v.1))

quotient : (m : ℤ) → nat_abs m ≤ 32768 → div binary32 (of_int binary32 m) (of_bits binary32 0x4700_0000) ≡ over32768 m
unfolding of_int of_bits over32768
quotient (pos n) h = divide (round binary32 false n 1) false n (round_whole binary32 false n (omega arith))
quotient (negsuc n) h = divide (round binary32 true (suc n) 1) true (suc n) (round_whole binary32 true (suc n) (omega arith))

pub returns : goal.returns
returns c = simp (to_z-of_z, c.ranges.m) (quotient c.args.m c.requires)
