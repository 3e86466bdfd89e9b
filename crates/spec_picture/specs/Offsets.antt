-- The paper's window once more, by offsets: "holds the cells (i+p, j+q)". `proofs/Offsets` shows that it is the direct sum.
-- Assumes nothing.
use Rattle.std.specs.Prelude.{ℕ, zero, suc, Bool, true, false, ltb, ℤ, pos, negsuc, nat_abs, ◌+ℤ◌}
use Rattle.numbers.specs.Sum.{pick}
use Rattle.spec_picture.specs.declared.Frame.{Frame}
use Rattle.spec_picture.specs.Frame.{remainder}
use Rattle.spec_picture.specs.Window.{Shape, height, reach}

-- f (-r) + .. + f r
unfoldable pub sum_span : ℕ → (ℤ → ℤ) → ℤ
sum_span zero f = f (pos 0)
sum_span (suc r) f = sum_span r f +ℤ (f (pos (suc r)) +ℤ f (negsuc r))

-- n values at any signed place: 0 past either end, or going round, "as the periodic extension"
unfoldable pub clipped : ℕ → (ℕ → ℤ) → ℤ → ℤ
clipped n f (pos k) = pick (ltb k n) (f k)
clipped n f (negsuc k) = pos 0

abbrev pub beyond : Bool → ℕ → (ℕ → ℤ) → ℤ → ℤ
beyond false n f c = clipped n f c
beyond true n f c = f (remainder n c)

-- a plane at any signed cell: "At every other cell it is 0"; where columns wrap it is at every column what it is "at the wrapped column"
unfoldable pub extended : Frame → (ℕ → ℕ → ℤ) → ℤ → ℤ → ℤ
extended z P (pos m) c = pick (ltb m z.rows) (beyond z.columns_wrap z.columns (P m) c)
extended z P (negsuc m) c = pos 0

-- the sum over the offsets p, q of the window on (i, j)
unfoldable pub offset_sum : Frame → Shape → (ℕ → ℕ → ℤ) → ℤ → ℤ → ℤ
offset_sum z s P i j = sum_span (height s) (λ p. sum_span (reach s (nat_abs p)) (λ q. extended z P (i +ℤ p) (j +ℤ q)))
