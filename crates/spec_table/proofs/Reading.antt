-- Reading the table that was built gives the direct sum.
-- Assumes nothing.
use mathlib.Core.Path.{◌≡◌, refl, sym, ◌∙◌, ap}
use Prim.Native.Nat.{ℕ, zero, suc, ◌+◌, ◌-◌, ◌*◌, ◌^◌, ◌≤◌, ◌<◌, min}
use native.Mathlib.Omega.{arith}
use native.Mathlib.Nat.{mul-le-mul}
use mathlib.Core.Bool.{Bool, true, false, not, ◌&&◌}
use mathlib.Core.List.{List, [], ◌∷◌}
use mathlib.Core.Option.{none}
use lib.Dec.{T, leb, ltb, eqb}
use lib.ListN.{length}
use lib.IntN.{ℤ, pos, nat_abs, ◌+ℤ◌, ◌-ℤ◌, neg_ℤ, neg_ℤ-+ℤ, +ℤ_idr}
use Rattle.numbers.specs.Sum.{sum_to, pick, dist}
use Rattle.numbers.specs.Grid.{grid}
use Rattle.numbers.specs.Wrap.{wrap}
use Rattle.numbers.proofs.Linear.{Diff, any, sums, ring}
use Rattle.numbers.proofs.Sums.{sum-suc, sum-cong, sum-zero, sum-add, sum_near}
use Rattle.numbers.proofs.Grids.{length-rows, get_or-grid}
use Rattle.numbers.proofs.Wraps.{wrap-small}
use Rattle.spec_picture.specs.Refusal.{answered, refusal, numbers_of}
use Rattle.numbers.proofs.Tests.{not-of}
use Rattle.spec_picture.specs.declared.Window.{Window}
use Rattle.spec_picture.specs.Window.{Shape, rectangle, slanted, window_legal, shape_of, height, reach, width, fits}
use Rattle.spec_picture.specs.declared.Frame.{Frame}
use Rattle.spec_picture.specs.Frame.{row_gap, column_gap, Apart, cells, frame_legal}
use Rattle.spec_picture.specs.Sides.{round_end}
use Rattle.spec_picture.proofs.Gaps.{near-columns}
use Rattle.spec_picture.specs.Picture.{Levels, Source, Inputs, plane_at, shift_legal}
use Rattle.spec_picture.specs.Conditions.{accepted}
use Rattle.spec_picture.specs.Direct.{window_sum, direct_sum}
use Rattle.spec_picture.proofs.Refusals.{InLimits, in-limits, accepted-has, outcome-none, filling-none, pass, no-checks, length-passes, cell-passes}
use Rattle.spec_picture.proofs.Windows.{by_rows, window-bound, reach_width, apart-of}
use Rattle.spec_picture.proofs.Planes.{plane-bound}
use Rattle.spec_table.specs.Table.{table_at, table_of, corner, four_corners, read_rectangle, round_the_edge, read_rows, read_shape, read_table, read_checks, read_call, build_checks, build_call}

-- the sum over the first x rows and the first y columns
abbrev prefix : (ℕ → ℕ → ℤ) → ℕ → ℕ → ℤ
prefix P x y = sum_to x (λ m. sum_to y (λ n. P m n))

sum-neg : (n : ℕ) (f : ℕ → ℤ) → sum_to n (λ k. neg_ℤ (f k)) ≡ neg_ℤ (sum_to n f)
unfolding sum_to
sum-neg zero f = refl
sum-neg (suc n) f = rw (sum-neg n f) (sym (neg_ℤ-+ℤ (sum_to n f) (f n)))

abbrev sum-atom : (n : ℕ) (f : ℕ → ℤ) → Diff (sum_to n f)
sum-atom n f = any (sum_to n f)

module _ (z : Frame) (P : ℕ → ℕ → ℤ) (lim : InLimits z) where
  abbrev built : List ℤ
  built = grid z.rows z.columns (table_at P)

  -- a corner of the table that was built
  corner-is : (x y : ℕ) → corner z built x y ≡ prefix P (min x z.rows) (min y z.columns)
  unfolding corner table_at
  corner-is zero y =
      let e : min 0 z.rows ≡ 0 = omega arith in
      rw e (unfold sum_to in refl)
  corner-is (suc x) zero =
      let e : min 0 z.columns ≡ 0 = omega arith in
      rw e (sym (unfold sum_to in sum-zero (min (suc x) z.rows)))
  corner-is (suc x) (suc y) =
      let e : min (suc x) z.rows ≡ suc (min x (z.rows - 1)) = omega (arith, lim.some_rows) in
      let e' : min (suc y) z.columns ≡ suc (min y (z.columns - 1)) = omega (arith, lim.some_columns) in
      rw (e, e') (get_or-grid z.rows z.columns (min x (z.rows - 1)) (min y (z.columns - 1)) (table_at P) (pos 0) (omega (arith, lim.some_rows)) (omega (arith, lim.some_columns)))

  -- the numbers that the columns past the edge begin and end with are those of the picture
  past-min : (c j r : ℕ) → j < c → 2 * r + 1 ≤ c → min (suc (j + r) - c) c ≡ suc (j + r) - c
  past-min c j r h l = omega arith

  none-sum : (f : ℕ → ℤ) → sum_to 0 f ≡ pos 0
  none-sum f = unfold sum_to in refl

  -- a rectangle
  read-rectangle : (a b i j : ℕ) → j < z.columns → Apart z b → read_rectangle z built a b i j ≡ window_sum z (rectangle a b) P i j
  unfolding four_corners height reach
  read-rectangle a b i j hj apart =
      go z.columns_wrap apart
      ∙ sum-cong z.rows (λ m. pick (leb (dist i m) a) ((sum_to (min (suc (j + b)) z.columns) (P m) -ℤ sum_to (min (j - b) z.columns) (P m)) +ℤ round_end z.columns_wrap z.columns j b (P m)))
      (λ m. pick (leb (dist i m) a) (sum_to z.columns (λ n. pick (leb (column_gap z j n) b) (P m n))))
      (λ m h. ap (pick (leb (dist i m) a)) (sym (near-columns z j b hj apart (P m))))
      ∙ sym (by_rows z (rectangle a b) P i j)
    where
      go : (w : Bool) → (T w → 2 * b + 1 ≤ z.columns) → four_corners z built (i - a) (suc (i + a)) (j - b) (suc (j + b)) +ℤ round_the_edge w z built (i - a) (suc (i + a)) b j ≡
          sum_to z.rows (λ m. pick (leb (dist i m) a) ((sum_to (min (suc (j + b)) z.columns) (P m) -ℤ sum_to (min (j - b) z.columns) (P m)) +ℤ round_end w z.columns j b (P m)))
      go false k = simp (corner-is, sum_near, sum-add, sum-neg, sum-zero) (ring (search (sums, sum-atom) depth 16) (omega arith))
      go true k =
          let e0 : min 0 z.columns ≡ 0 = omega arith in
          let e1 : min (suc (j + b) - z.columns) z.columns ≡ suc (j + b) - z.columns = past-min z.columns j b hj (k tt) in
          let e2 : min (z.columns - (b - j)) z.columns ≡ z.columns - (b - j) = omega arith in
          let e3 : min z.columns z.columns ≡ z.columns = omega arith in
          simp (corner-is, e0, e1, e2, e3, none-sum, sum_near, sum-add, sum-neg, sum-zero) (ring (search (sums, sum-atom) depth 20) (omega arith))

  -- one row of a window
  read-row : (r m j : ℕ) → m < z.rows → j < z.columns → Apart z r → read_rectangle z built 0 r m j ≡ sum_to z.columns (λ n. pick (leb (column_gap z j n) r) (P m n))
  unfolding four_corners
  read-row r m j h hj apart = go z.columns_wrap apart ∙ sym (near-columns z j r hj apart (P m))
    where
      go : (w : Bool) → (T w → 2 * r + 1 ≤ z.columns) → four_corners z built (m - 0) (suc (m + 0)) (j - r) (suc (j + r)) +ℤ round_the_edge w z built (m - 0) (suc (m + 0)) r j ≡
          (sum_to (min (suc (j + r)) z.columns) (P m) -ℤ sum_to (min (j - r) z.columns) (P m)) +ℤ round_end w z.columns j r (P m)
      go false k =
          let e0 : m - 0 ≡ m = omega arith in
          let e1 : suc (m + 0) ≡ suc m = omega arith in
          let e2 : min m z.rows ≡ m = omega arith in
          let e3 : min (suc m) z.rows ≡ suc m = omega arith in
          rw (e0, e1) (simp (corner-is, e2, e3, sum-suc) (ring (search (sums, sum-atom) depth 12) (omega arith)))
      go true k =
          let e0 : m - 0 ≡ m = omega arith in
          let e1 : suc (m + 0) ≡ suc m = omega arith in
          let e2 : min m z.rows ≡ m = omega arith in
          let e3 : min (suc m) z.rows ≡ suc m = omega arith in
          let f0 : min 0 z.columns ≡ 0 = omega arith in
          let f1 : min (suc (j + r) - z.columns) z.columns ≡ suc (j + r) - z.columns = past-min z.columns j r hj (k tt) in
          let f2 : min (z.columns - (r - j)) z.columns ≡ z.columns - (r - j) = omega arith in
          let f3 : min z.columns z.columns ≡ z.columns = omega arith in
          rw (e0, e1) (simp (corner-is, e2, e3, f0, f1, f2, f3, none-sum, sum-zero, sum-suc) (ring (search (sums, sum-atom) depth 20) (omega arith)))

  read-rows : (s : Shape) (i j : ℕ) → j < z.columns → Apart z (width s) → read_rows z built s i j ≡ window_sum z s P i j
  read-rows s i j hj apart =
      sum-cong z.rows (λ m. pick (leb (row_gap z i m) (height s)) (read_rectangle z built 0 (reach s (row_gap z i m)) m j))
      (λ m. pick (leb (row_gap z i m) (height s)) (sum_to z.columns (λ n. pick (leb (column_gap z j n) (reach s (row_gap z i m))) (P m n))))
      (λ m h. ap (pick (leb (row_gap z i m) (height s))) (read-row (reach s (row_gap z i m)) m j h hj (λ t. omega (arith, apart t, reach_width s (row_gap z i m)))))
      ∙ sym (by_rows z s P i j)

  module _ (small : (m n : ℕ) → nat_abs (P m n) ≤ 2 ^ 30) where
    -- no sum over a picture comes near 2 ^ 63
    pub window-fits : (s : Shape) (i j : ℕ) → nat_abs (window_sum z s P i j) < 2 ^ 63
    window-fits s i j =
        omega (arith, window-bound z s P (2 ^ 30) i j small, mul-le-mul lim.few_rows lim.few_columns)

    pub read-shape : (s : Shape) (i j : ℕ) → j < z.columns → Apart z (width s) → read_shape z built s i j ≡ window_sum z s P i j
    unfolding read_shape width
    read-shape (rectangle a b) i j hj apart = ap wrap (read-rectangle a b i j hj apart) ∙ wrap-small (window_sum z (rectangle a b) P i j) (window-fits (rectangle a b) i j)
    read-shape (slanted o) i j hj apart = ap wrap (read-rows (slanted o) i j hj apart) ∙ wrap-small (window_sum z (slanted o) P i j) (window-fits (slanted o) i j)

module _ (x : Inputs) (ok : accepted x) (hf : Levels x.source.f) (hg : Levels x.source.g) where
  lim : InLimits x.source.frame
  lim = in-limits x.source.frame (accepted-has x ok).frame

  -- reading gives the direct sum
  pub read-direct : (i j : ℕ) → j < x.source.frame.columns → read_table x.source.frame (table_of x.source) x.window i j ≡ direct_sum x i j
  unfolding read_table table_of direct_sum
  read-direct i j hj = read-shape x.source.frame (plane_at x.source) lim (plane-bound x.source hf hg) (shape_of x.window) i j hj (apart-of x.source.frame x.window (accepted-has x ok).fitting)

  pub length-table : length (table_of x.source) ≡ cells x.source.frame
  unfolding table_of
  length-table = length-rows 0 x.source.frame.rows x.source.frame.columns (table_at (plane_at x.source))

  -- building is accepted, and fills the area with the table
  pub build-fills : (area : List ℤ) → length area ≡ cells x.source.frame → build_call x.source area ≡ record { answer = answered tt; area = table_of x.source }
  unfolding build_call
  build-fills area e = filling-none (refusal (build_checks x.source area)) area (table_of x.source) none-refused
    where
      none-refused : refusal (build_checks x.source area) ≡ none
      none-refused =
          let s = x.source in
          let a = accepted-has x ok in
          pass 1 (not (frame_legal s.frame)) _ (not-of (frame_legal s.frame) a.frame)
          ∙ pass 2 (not (eqb (length s.f) (cells s.frame))) _ (length-passes (length s.f) (cells s.frame) a.length_f)
          ∙ pass 2 (not (eqb (length s.g) (cells s.frame))) _ (length-passes (length s.g) (cells s.frame) a.length_g)
          ∙ pass 4 (not (shift_legal s.shift)) _ (not-of (shift_legal s.shift) a.shift)
          ∙ pass 5 (ltb 5 s.plane) _ a.plane
          ∙ pass 8 (not (eqb (length area) (cells s.frame))) [] (length-passes (length area) (cells s.frame) e)
          ∙ no-checks

  -- reading that table answers with the direct sum at every cell of the picture
  pub read-answers : (i j : ℕ) → i < x.source.frame.rows → j < x.source.frame.columns → read_call x.source.frame (table_of x.source) x.window i j ≡ answered (direct_sum x i j)
  unfolding read_call
  read-answers i j hi hj =
      outcome-none (refusal (read_checks x.source.frame (table_of x.source) x.window i j)) (read_table x.source.frame (table_of x.source) x.window i j) none-refused ∙ ap answered (read-direct i j hj)
    where
      none-refused : refusal (read_checks x.source.frame (table_of x.source) x.window i j) ≡ none
      none-refused =
          let z = x.source.frame in
          let a = accepted-has x ok in
          pass 1 (not (frame_legal z)) _ (not-of (frame_legal z) a.frame)
          ∙ pass 3 (not (window_legal x.window)) _ (not-of (window_legal x.window) a.window)
          ∙ pass 11 (not (fits z x.window)) _ (not-of (fits z x.window) a.fitting)
          ∙ pass 6 (not (ltb i z.rows && ltb j z.columns)) _ (cell-passes z i j hi hj)
          ∙ pass 8 (not (eqb (length (table_of x.source)) (cells z))) [] (length-passes (length (table_of x.source)) (cells z) length-table)
          ∙ no-checks

-- "Checks run in number order, each where the call has that input"
pub build-order : (x : Source) (area : List ℤ) → numbers_of (build_checks x area) ≡ 1 ∷ 2 ∷ 2 ∷ 4 ∷ 5 ∷ 8 ∷ []
unfolding numbers_of
build-order x area = refl

pub read-order : (z : Frame) (t : List ℤ) (w : Window) (i j : ℕ) → numbers_of (read_checks z t w i j) ≡ 1 ∷ 3 ∷ 11 ∷ 6 ∷ 8 ∷ []
unfolding numbers_of
read-order z t w i j = refl

-- where columns clip, reading is document 01's: the four corners of the window's rectangle
pub read-clipped : (z : Frame) (t : List ℤ) (a b i j : ℕ) → z.columns_wrap ≡ false → read_rectangle z t a b i j ≡ four_corners z t (i - a) (suc (i + a)) (j - b) (suc (j + b))
read-clipped z t a b i j clips =
    let sum = four_corners z t (i - a) (suc (i + a)) (j - b) (suc (j + b)) in
    ap (λ (w : Bool). sum +ℤ round_the_edge w z t (i - a) (suc (i + a)) b j) clips ∙ +ℤ_idr sum
