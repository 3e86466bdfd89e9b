-- Rows of one number, as the tests have them.
-- Assumes nothing.
use mathlib.Core.Path.{◌≡◌}
use Prim.Native.Nat.{ℕ, ◌+◌, ◌≤◌, ◌<◌}
use native.Mathlib.Omega.{arith}
use native.Mathlib.Decide.{dec_lt}
use mathlib.Core.List.{map}
use lib.LanesLaws.{map-replicate}
use lib.ListN.{length, replicate, length-replicate, get_or-replicate}
use lib.IntN.{ℤ, pos}
use lib.Signed.{mag}
use Rattle.std.proofs.lemmas.List.{get_or_past}
use Rattle.numbers.proofs.Writes.{at}
use Rattle.slope_loops.specs.Loops.{AtMost}

module _ {X : Type 0} (f : X → ℤ) (n : ℕ) (x : X) where
  pub same-length : length (map f (replicate n x)) ≡ n
  same-length = rw (map-replicate f n x) (length-replicate n (f x))

  small : (m k : ℕ) → mag (f x) ≤ m → Dec (k < n) → mag (at (map f (replicate n x)) k) ≤ m
  small m k h (yes l) = rw (map-replicate f n x, get_or-replicate n k (f x) (pos 0) l) h
  small m k h (no l) = rw (map-replicate f n x, get_or_past (replicate n (f x)) k (pos 0) (omega (arith, length-replicate n (f x)))) (omega arith)

  pub same-at_most : (m p count : ℕ) → mag (f x) ≤ m → AtMost m (map f (replicate n x)) p count
  same-at_most m p count h = record { each = λ k l. small m (k + p) h (dec_lt (k + p) n) }
