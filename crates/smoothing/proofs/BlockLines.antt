-- Lists written m rows at a time: the cell that a place is, the part that is lent, and the rows put in place.
-- Assumes nothing.
use mathlib.Core.Path.{◌≡◌, ◌∙◌, ap}
use Prim.Native.Nat.{ℕ, zero, suc, ◌+◌, ◌-◌, ◌*◌, ◌/◌, ◌%◌, ◌≤◌, ◌<◌}
use native.Mathlib.Nat.{add-mul, div-add-mod', div-lt_iff_lt-mul, mod-lt}
use native.Mathlib.Omega.{arith}
use native.Mathlib.Decide.{dec_lt}
use mathlib.Core.List.{List}
use lib.ListN.{length, take, drop}
use lib.IntN.{ℤ}
use borrow.Rule.Slice.PartMut.{put_mid}
use Rattle.numbers.proofs.Grids.{place_inside}
use Rattle.numbers.proofs.Lines.{Lines}
use Rattle.numbers.proofs.Writes.{at, part-before, part-within, slice-length}

-- place k of m rows of width c is a cell of one of them
pub record CellOf (m c k : ℕ) : Type 0 where
  pub row : k / c < m
  pub column : k % c < c
  pub place : k / c * c + k % c ≡ k

pub cell-of : (m c k : ℕ) → k < m * c → CellOf m c k
cell-of m zero k h = absurd (omega arith)
cell-of m (suc b) k h = record {
  row = (div-lt_iff_lt-mul {k = suc b} {x = k} {y = m} (omega arith)).1 h;
  column = mod-lt k (omega arith);
  place = div-add-mod' k (suc b);
}

-- n places of a list from lo on, as they are lent
pub lent-length : (lo n : ℕ) (l : List ℤ) → lo + n ≤ length l → length (take (lo + n - lo) (drop lo l)) ≡ n
lent-length lo n l h =
    let span : lo + n - lo ≡ n = omega arith in
    slice-length lo (lo + n) l (omega arith) h ∙ span

-- m rows put in place after the first n rows
module _ (f : ℕ → ℕ → ℤ) (c n m lo hi : ℕ) (l part : List ℤ) (u : Lines f c l n) (start : lo ≡ n * c) (end : hi ≡ lo + m * c) (room : hi ≤ length l) (size : length part ≡ m * c)
    (rows : (r j : ℕ) → r < m → j < c → at part (r * c + j) ≡ f (n + r) j) where
  span : length part ≡ hi - lo
  span = omega (arith, size, end)

  lines-by : (y j : ℕ) → y < n + m → j < c → Dec (y < n) → at (put_mid lo (hi - lo) l part) (y * c + j) ≡ f y j
  lines-by y j h k (yes p) = part-before lo hi l part (omega (arith, end)) room span (y * c + j) (omega (arith, start, place_inside p k)) ∙ u.each y j p k
  lines-by y j h k (no p) =
      let r : y - n < m = omega (arith, h, p) in
      let y-is : n + (y - n) ≡ y = omega (arith, p) in
      let place : y * c + j ≡ lo + ((y - n) * c + j) = omega (arith, start, add-mul n (y - n) c, ap (λ (a : ℕ). a * c) y-is) in
      let inside : (y - n) * c + j < m * c = place_inside r k in
      let back : y * c + j - lo ≡ (y - n) * c + j = omega (arith, place) in
      part-within lo hi l part (omega (arith, end)) room span (y * c + j) (omega (arith, place)) (omega (arith, place, inside, end))
      ∙ ap (at part) back ∙ rows (y - n) j r k ∙ ap (λ (a : ℕ). f a j) y-is

  pub put-lines : Lines f c (put_mid lo (hi - lo) l part) (n + m)
  put-lines = record { each = λ y j h k. lines-by y j h k (dec_lt y n) }
