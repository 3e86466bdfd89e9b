-- The six direct sums of a cell are never impossible.
-- Assumes nothing.
use mathlib.Core.Path.{◌≡◌, refl, subst}
use Prim.Native.Nat.{ℕ, zero, suc, ◌+◌, ◌*◌, ◌^◌, ◌≤◌, ◌<◌}
use native.Mathlib.Omega.{arith}
use mathlib.Core.Bool.{Bool, true, false, ◌&&◌}
use lib.Dec.{T, leb}
use lib.IntN.{ℤ, pos, negsuc, nat_abs, ◌+ℤ◌, ◌*ℤ◌}
use lib.Signed.{◌≤ℤ◌, ≤ℤ_refl}
use Rattle.numbers.specs.Sum.{sum_to, pick}
use Rattle.numbers.proofs.Integers.{leℤ}
use Rattle.numbers.proofs.Laws.{add-nonneg, sub-of-le}
use Rattle.numbers.proofs.Magnitudes.{size-add}
use Rattle.numbers.proofs.Sums.{near-bound, pick-bound}
use Rattle.spec_picture.specs.Window.{window_legal, shape_of, height, reach, holds, fits}
use Rattle.spec_picture.specs.Frame.{row_gap, column_gap, Apart}
use Rattle.spec_picture.specs.Picture.{Levels, Inputs, counts, plane_value, plane_at, level_of, other_of}
use Rattle.spec_picture.specs.Direct.{window_sum, direct_sum}
use Rattle.spec_picture.proofs.Gaps.{columns-bound}
use Rattle.spec_picture.proofs.Windows.{small, by_rows, reach_width, apart-of}
use Rattle.spec_picture.proofs.Planes.{level-bound, other-bound, product-bound}
use Rattle.spec_statistics.proofs.Forms.{Psd, psd-one, psd-add, only, var-nonneg, square-le-T, cauchy}
use Rattle.spec_statistics.proofs.Bounds.{Possible, possible-of}
use Rattle.spec_statistics.specs.declared.Sums.{Sums}
use Rattle.spec_statistics.specs.SixSums.{six_sums, on_plane, impossible}

-- what the sums over any cells have, and the sums of two groups of cells together
pub record Fair (z : Sums) : Type 0 where
  pub form : Psd z.n z.s z.t z.a z.b z.p
  pub count : pos 0 ≤ℤ z.n
  pub first : nat_abs z.s ≤ 32768 * nat_abs z.n
  pub second : nat_abs z.t ≤ 32768 * nat_abs z.n
  pub square_f : pos 0 ≤ℤ z.a
  pub squares_f : nat_abs z.a ≤ 2 ^ 30 * nat_abs z.n
  pub square_g : pos 0 ≤ℤ z.b
  pub squares_g : nat_abs z.b ≤ 2 ^ 30 * nat_abs z.n
  pub product : nat_abs z.p ≤ 2 ^ 30 * nat_abs z.n

abbrev pub plus : Sums → Sums → Sums
plus x y = record { n = x.n +ℤ y.n; s = x.s +ℤ y.s; t = x.t +ℤ y.t; a = x.a +ℤ y.a; b = x.b +ℤ y.b; p = x.p +ℤ y.p }

both-count : (x y : ℤ) → pos 0 ≤ℤ x → pos 0 ≤ℤ y → nat_abs (x +ℤ y) ≡ nat_abs x + nat_abs y
both-count (pos a) (pos b) h k = refl
both-count (pos a) (negsuc b) h k = absurd k.le
both-count (negsuc a) y h k = absurd h.le

pub fair-plus : (x y : Sums) → Fair x → Fair y → Fair (plus x y)
fair-plus x y g h =
    let e = both-count x.n y.n g.count h.count in
    record {
      form = psd-add x.n x.s x.t x.a x.b x.p y.n y.s y.t y.a y.b y.p g.form h.form;
      count = add-nonneg g.count h.count;
      first = omega (arith, e, size-add x.s y.s, g.first, h.first);
      second = omega (arith, e, size-add x.t y.t, g.second, h.second);
      square_f = add-nonneg g.square_f h.square_f;
      squares_f = omega (arith, e, size-add x.a y.a, g.squares_f, h.squares_f);
      square_g = add-nonneg g.square_g h.square_g;
      squares_g = omega (arith, e, size-add x.b y.b, g.squares_g, h.squares_g);
      product = omega (arith, e, size-add x.p y.p, g.product, h.product);
    }

-- a cell that counts, or does not
abbrev one : Bool → ℤ → ℤ → Sums
one t x y = record { n = only t (pos 1); s = only t x; t = only t y; a = only t (x *ℤ x); b = only t (y *ℤ y); p = only t (x *ℤ y) }

fair-one : (t : Bool) (x y : ℤ) → nat_abs x ≤ 32768 → nat_abs y ≤ 32768 → Fair (one t x y)
fair-one true x y h k = record {
  form = psd-one true x y;
  count = leℤ (pos 0) (pos 1) (omega arith);
  first = omega arith;
  second = omega arith;
  square_f = Rattle.numbers.proofs.Laws.sq-nonneg x;
  squares_f = omega (arith, product-bound x x h h);
  square_g = Rattle.numbers.proofs.Laws.sq-nonneg y;
  squares_g = omega (arith, product-bound y y k k);
  product = omega (arith, product-bound x y h k);
}
fair-one false x y h k = record {
  form = psd-one false x y;
  count = ≤ℤ_refl (pos 0);
  first = omega arith;
  second = omega arith;
  square_f = ≤ℤ_refl (pos 0);
  squares_f = omega arith;
  square_g = ≤ℤ_refl (pos 0);
  squares_g = omega arith;
  product = omega arith;
}

-- the sums of n groups
abbrev total : ℕ → (ℕ → Sums) → Sums
total k f = record {
  n = sum_to k (λ m. (f m).n);
  s = sum_to k (λ m. (f m).s);
  t = sum_to k (λ m. (f m).t);
  a = sum_to k (λ m. (f m).a);
  b = sum_to k (λ m. (f m).b);
  p = sum_to k (λ m. (f m).p);
}

fair-total : (k : ℕ) (f : ℕ → Sums) → ((m : ℕ) → Fair (f m)) → Fair (total k f)
unfolding sum_to
fair-total zero f h = fair-one false (pos 0) (pos 0) (omega arith) (omega arith)
fair-total (suc k) f h = fair-plus (total k f) (f k) (fair-total k f h) (h k)

-- a plane's value, where the window holds the cell and it counts
pick-twice : (b c : Bool) (x : ℤ) → only (b && c) x ≡ pick b (pick c x)
unfolding pick
pick-twice true true x = refl
pick-twice true false x = refl
pick-twice false c x = refl

module _ (x : Inputs) (hf : Levels x.source.f) (hg : Levels x.source.g) (i j : ℕ) where
  abbrev at : ℕ → ℕ → Sums
  at m n = one (holds x.source.frame (shape_of x.window) i j m n && counts x.source m n) (level_of x.source m n) (other_of x.source m n)

  sums-are : total x.source.frame.rows (λ m. total x.source.frame.columns (at m)) ≡ six_sums x i j
  unfolding direct_sum window_sum plane_at plane_value counts
  sums-are = simp pick-twice

  pub sums-fair : Fair (six_sums x i j)
  sums-fair = subst Fair sums-are
      (fair-total x.source.frame.rows (λ m. total x.source.frame.columns (at m))
      (λ m. fair-total x.source.frame.columns (at m) (λ n. fair-one (holds x.source.frame (shape_of x.window) i j m n && counts x.source m n) (level_of x.source m n) (other_of x.source m n) (level-bound x.source hf hg m n) (other-bound x.source hf hg m n))))

  ones : (m n : ℕ) → nat_abs (plane_at (on_plane x 0).source m n) ≤ 1
  unfolding plane_at plane_value counts
  ones m n = omega (arith, pick-bound (counts x.source m n) (pos 1))

  -- N is at most 65,025: at most 255 rows of at most 255 cells
  pub count-bound : T (window_legal x.window) → T (fits x.source.frame x.window) → j < x.source.frame.columns → nat_abs (six_sums x i j).n ≤ 65025
  unfolding direct_sum
  count-bound t fitting j< =
      let s = shape_of x.window in
      let k = small x.window t in
      let P = plane_at (on_plane x 0).source in
      rw (by_rows x.source.frame s P i j)
      (omega (
        arith,
        near-bound x.source.frame.rows i (height s) 255 (λ m. sum_to x.source.frame.columns (λ n. pick (leb (column_gap x.source.frame j n) (reach s (row_gap x.source.frame i m))) (P m n)))
            (λ m. omega (arith, columns-bound x.source.frame j (reach s (row_gap x.source.frame i m)) j< (narrower m) 1 (P m) (λ n. ones m n), k.narrow (row_gap x.source.frame i m))),
        k.low,
      ))
    where
      narrower : (m : ℕ) → Apart x.source.frame (reach (shape_of x.window) (row_gap x.source.frame i m))
      narrower m t = omega (arith, apart-of x.source.frame x.window fitting t, reach_width (shape_of x.window) (row_gap x.source.frame i m))

-- ---- from the properties to the test
fair-possible : (z : Sums) → Fair z → nat_abs z.n ≤ 65025 → Possible z
fair-possible z f k = record {
  bounded = record {
    whole = f.count;
    few = k;
    first = f.first;
    second = f.second;
    square_f_whole = f.square_f;
    square_f = f.squares_f;
    square_g_whole = f.square_g;
    square_g = f.squares_g;
    product = f.product;
  };
  spread_f = var-nonneg z.n z.s z.t z.a z.b z.p f.form;
  spread_g = sub-of-le (z.t *ℤ z.t) (z.n *ℤ z.b) (square-le-T z.n z.s z.t z.a z.b z.p f.form);
  schwarz = cauchy z.n z.s z.t z.a z.b z.p f.count f.form;
}

-- no statistic answers 9 to the six direct sums
pub sums-possible : (x : Inputs) → Levels x.source.f → Levels x.source.g → T (window_legal x.window) → T (fits x.source.frame x.window) → (i j : ℕ) → j < x.source.frame.columns → impossible (six_sums x i j) ≡ false
sums-possible x hf hg t fitting i j j< =
    possible-of (six_sums x i j) (fair-possible (six_sums x i j) (sums-fair x hf hg i j) (count-bound x hf hg i j t fitting j<))
