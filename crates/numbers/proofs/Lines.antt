-- A loop that writes a list row by row: what its first rows hold.
-- Assumes nothing.
use mathlib.Core.Path.{◌≡◌, sym, ◌∙◌, ap}
use mathlib.Core.List.{List}
use Prim.Native.Nat.{ℕ, zero, suc, ◌+◌, ◌*◌, ◌/◌, ◌%◌, ◌≤◌, ◌<◌}
use native.Mathlib.Nat.{suc-mul, mul-le-mul_right, div-add-mod', div-lt_iff_lt-mul, mod-lt}
use native.Mathlib.Numerals.{add-one}
use native.Mathlib.Omega.{arith}
use native.Mathlib.Decide.{ℕ_discrete}
use lib.IntN.{ℤ, pos}
use lib.ListN.{length}
use lib.Seq.{ext_get_or}
use Rattle.numbers.specs.Grid.{tabulate, grid}
use Rattle.numbers.proofs.Grids.{length-tabulate, length-rows, get_or-grid}
use Rattle.numbers.proofs.Writes.{at}

-- a row that was written has its length
pub tabulated-length : (l : List ℤ) (n : ℕ) (f : ℕ → ℤ) → l ≡ tabulate n f → length l ≡ n
tabulated-length l n f e = ap length e ∙ length-tabulate n f

-- a row that there is ends within the list
pub line-end : (y n c : ℕ) → y < n → y * c + c ≤ n * c
line-end y n c h = rw (← suc-mul y c) (mul-le-mul_right c h)

pub line-next : (y c : ℕ) → (y + 1) * c ≡ y * c + c
line-next y c = rw (add-one y) (suc-mul y c)

-- the first n rows of l, of width c, are f's
pub record Lines (f : ℕ → ℕ → ℤ) (c : ℕ) (l : List ℤ) (n : ℕ) : Type 0 where
  pub each : (y x : ℕ) → y < n → x < c → at l (y * c + x) ≡ f y x

pub lines_none : (f : ℕ → ℕ → ℤ) (c : ℕ) (l : List ℤ) → Lines f c l 0
lines_none f c l = record { each = λ y x h k. absurd (omega arith) }

-- the next row is written in place, from lo on
module _ (f : ℕ → ℕ → ℤ) (c : ℕ) (l m : List ℤ) (n lo : ℕ) (u : Lines f c l n) (start : lo ≡ n * c) (kept : (k : ℕ) → k < lo → at m k ≡ at l k) (row : (x : ℕ) → x < c → at m (lo + x) ≡ f n x) where
  next-by : (y x : ℕ) → y < n + 1 → x < c → Dec (y ≡ n) → at m (y * c + x) ≡ f y x
  next-by y x h k (yes p) = rw (p, ← start) (row x k)
  next-by y x h k (no p) = kept (y * c + x) (omega (arith, line-end y n c (omega arith))) ∙ u.each y x (omega arith) k

  pub lines_next : Lines f c m (n + 1)
  lines_next = record { each = λ y x h k. next-by y x h k (ℕ_discrete y n) }

-- all rows are written
pub lines-all : (f : ℕ → ℕ → ℤ) (c : ℕ) (l : List ℤ) (n : ℕ) → Lines f c l n → length l ≡ n * c → l ≡ grid n c f
lines-all f zero l n u e = ext_get_or (pos 0) l (grid n 0 f) (e ∙ sym (length-rows 0 n 0 f)) (λ k h. absurd (omega arith))
lines-all f (suc b) l n u e = ext_get_or (pos 0) l (grid n c f) (e ∙ sym (length-rows 0 n c f)) (λ k h. same k (omega arith))
  where
    c : ℕ
    c = suc b

    same : (k : ℕ) → k < n * c → at l k ≡ at (grid n c f) k
    same k h =
        let y : k / c < n = (div-lt_iff_lt-mul {k = c} {x = k} {y = n} (omega arith)).1 h in
        let x : k % c < c = mod-lt k (omega arith) in
        rw (← div-add-mod' k c) (u.each (k / c) (k % c) y x ∙ sym (get_or-grid n c (k / c) (k % c) f (pos 0) y x))
