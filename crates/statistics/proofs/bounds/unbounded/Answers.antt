-- `statistics::bounds::unbounded` meets its contract. Assumes nothing.
use borrow.Author.Rules.{rules}
use mathlib.Core.Path.{◌≡◌, refl}
use mathlib.Core.Bool.{Bool, true, false, ◌||◌}
use Prim.Native.Nat.{ℕ, ◌*◌}
use native.Mathlib.Omega.{arith}
use lib.Dec.{ltb}
use lib.IntN.{ℤ, pos, negsuc, nat_abs}
use lib.Signed.{lt_z}
use mir.Facts.{to_z-of_z}
use Rattle.spec_statistics.specs.SixSums.{unbounded}
use Rattle.spec_statistics.proofs.Fits.{Fit}
use Rattle.statistics.proofs.bounds.unbounded.Goals as goal

-- where x is not negative, the test of its magnitude is that of x
by_magnitude : (t : Bool) (x : ℤ) (k : ℕ) → ((t || lt_z x (pos 0)) || ltb k (nat_abs x)) ≡ ((t || lt_z x (pos 0)) || lt_z (pos k) x)
by_magnitude t (pos x) k = refl
by_magnitude true (negsuc x) k = refl
by_magnitude false (negsuc x) k = refl

-- the tests where N is within its range, with the magnitudes of the other sums
tests : (n s t a b p : ℤ) (u v w x y : ℕ) → lt_z n (pos 0) ≡ false → lt_z (pos 65025) n ≡ false → u ≡ nat_abs s → v ≡ nat_abs t → w ≡ nat_abs a → x ≡ nat_abs b → y ≡ nat_abs p →
    (ltb (32768 * nat_abs n) u || ltb (32768 * nat_abs n) v || lt_z a (pos 0) || ltb (1073741824 * nat_abs n) w || lt_z b (pos 0) || ltb (1073741824 * nat_abs n) x || ltb (1073741824 * nat_abs n) y) ≡
    unbounded (record { n = n; s = s; t = t; a = a; b = b; p = p })
tests (negsuc n) s t a b p u v w x y e f hu hv hw hx hy = let z : ◌≡◌ {A = ℕ} 0 1 = cc in absurd (omega arith)
tests (pos n) s t a b p u v w x y e f hu hv hw hx hy = rw (f, e, hu, hv, hw, hx, hy, by_magnitude _ a, by_magnitude _ b)

pub returns : goal.returns
returns c = let fit : Fit c.args.z = search rules in grind (arith, to_z-of_z, tests)
