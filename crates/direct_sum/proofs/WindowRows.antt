-- Sums that a loop makes of a window's rows.
-- Assumes nothing.
use mathlib.Core.Path.{◌≡◌, refl, sym, ap, ap₂, ◌∙◌}
use Prim.Native.Nat.{ℕ, suc, ◌+◌, ◌-◌, ◌^◌, ◌≤◌, ◌<◌, min, max}
use native.Mathlib.Nat.{le-add_right, mul-le-mul}
use native.Mathlib.Decide.{dec_lt}
use native.Mathlib.Omega.{arith}
use lib.Dec.{T, leb}
use mathlib.Core.Bool.{Bool, true, false}
use lib.IntN.{ℤ, pos, ◌+ℤ◌, ◌-ℤ◌, +ℤ_idl, +ℤ_idr}
use Rattle.numbers.specs.Sum.{sum_to, pick}
use Rattle.numbers.specs.Wrap.{wrap}
use Rattle.numbers.proofs.Sums.{sum-cong, sum-none, sum-split, sum-range, near-range}
use Rattle.numbers.proofs.Linear.{any, sums, ring}
use Rattle.numbers.proofs.Wraps.{wrap-small, wrap-add, wrap-add-right}
use Rattle.spec_picture.specs.declared.Frame.{Frame}
use Rattle.spec_picture.specs.Frame.{frame_legal, row_gap, column_gap, Apart}
use Rattle.spec_picture.specs.Sides.{round_end}
use Rattle.spec_picture.proofs.Gaps.{near-columns}
use Rattle.spec_picture.specs.Window.{shape_of, height, reach}
use Rattle.spec_picture.specs.Picture.{Inputs, Levels, plane_at}
use Rattle.spec_picture.specs.Direct.{window_sum, direct_sum}
use Rattle.spec_picture.proofs.Refusals.{in-limits}
use Rattle.spec_picture.proofs.Windows.{by_rows, window-bound}
use Rattle.spec_picture.proofs.Planes.{plane-bound}

-- a sum of two that are wrapped
pub both-wrapped : (s t x y : ℤ) → s ≡ wrap x → t ≡ wrap y → wrap (s +ℤ t) ≡ wrap (x +ℤ y)
both-wrapped s t x y e d = ap₂ (λ (a b : ℤ). wrap (a +ℤ b)) e d ∙ wrap-add-right (wrap x) y ∙ wrap-add x y

-- ---- the columns of a row from lo up to hi: those that count lie from a up to b, and the others are 0
module _ (f : ℕ → ℤ) where
  gap : (lo hi : ℕ) → lo ≤ hi → ((k : ℕ) → lo ≤ k → k < hi → f k ≡ pos 0) → sum_to hi f ≡ sum_to lo f
  gap lo hi h z =
      let e : hi ≡ lo + (hi - lo) = omega arith in
      ap (λ (n : ℕ). sum_to n f) e ∙ sum-split lo (hi - lo) f
      ∙ ap (λ (y : ℤ). sum_to lo f +ℤ y) (sum-none (hi - lo) (λ k. f (lo + k)) (λ k k<. z (lo + k) (le-add_right lo k) (omega arith)))
      ∙ +ℤ_idr (sum_to lo f)

  within : (lo a b hi : ℕ) → lo ≤ a → a ≤ b → b ≤ hi → ((k : ℕ) → lo ≤ k → k < hi → (a ≤ k → k < b → ⊥) → f k ≡ pos 0) →
      sum_to (hi - lo) (λ k. f (lo + k)) ≡ sum_to (b - a) (λ k. f (a + k))
  within lo a b hi l m u z =
      sym (sum-range lo hi f (omega arith))
      ∙ ap₂ ◌-ℤ◌ (gap b hi u (λ k c d. z k (omega arith) d (λ x y. omega arith))) (sym (gap lo a l (λ k c d. z k c (omega arith) (λ x y. omega arith))))
      ∙ sum-range a b f m

  pub sum-clipped : (lo hi first end : ℕ) → lo ≤ hi → first ≤ end → ((k : ℕ) → k < hi → (first ≤ k → k < end → ⊥) → f k ≡ pos 0) →
      sum_to (min (max hi first) end - min (max lo first) end) (λ k. f (min (max lo first) end + k)) ≡ sum_to (hi - lo) (λ k. f (lo + k))
  sum-clipped lo hi first end o p z = go (dec_lt a b)
    where
      a : ℕ
      a = min (max lo first) end

      b : ℕ
      b = min (max hi first) end

      go : Dec (a < b) → sum_to (b - a) (λ k. f (a + k)) ≡ sum_to (hi - lo) (λ k. f (lo + k))
      go (yes h) = sym (within lo a b hi (omega arith) (omega arith) (omega arith) (λ k c d never. z k d (λ u v. never (omega arith) (omega arith))))
      go (no h) =
          let none : b - a ≡ 0 = omega arith in
          ap (λ (n : ℕ). sum_to n (λ k. f (a + k))) none ∙ sum-none 0 _ (λ k k<. absurd (omega arith))
          ∙ sym (sum-none (hi - lo) _ (λ k k<. z (lo + k) (omega arith) (λ u v. omega arith)))

-- ---- the same where those that count are two stretches, up to a seam and from there on
clip-before : (x first seam last : ℕ) → first ≤ seam → seam ≤ last → x ≤ seam → min (max x first) last ≡ min (max x first) seam
clip-before x first seam last p q h = omega arith

clip-past : (x first seam last : ℕ) → first ≤ seam → seam ≤ last → seam ≤ x → min (max x first) last ≡ min (max x seam) last
clip-past x first seam last p q h = omega arith

at-seam : (x first seam last : ℕ) → first ≤ seam → seam ≤ last → min (max x seam) last ≤ seam → min (max x first) last ≡ min (max x first) seam
at-seam x first seam last p q h = omega arith

past-seam : (x first seam last : ℕ) → first ≤ seam → seam < min (max x seam) last → (min (max x first) seam ≡ seam) × (min (max x first) last ≡ min (max x seam) last)
past-seam x first seam last p h = (omega arith, omega arith)

three : (a b c : ℤ) → (b -ℤ a) +ℤ (c -ℤ b) ≡ c -ℤ a
three a b c = ring (search (sums, any a, any b, any c)) (omega arith)

module _ (f : ℕ → ℤ) (lo hi first seam last : ℕ) (o : lo ≤ hi) (p : first ≤ seam) (q : seam ≤ last) (z : (k : ℕ) → k < hi → (first ≤ k → k < last → ⊥) → f k ≡ pos 0) where
  abbrev between : ℕ → ℕ → ℤ
  between a b = sum_to (b - a) (λ k. f (a + k))

  both : between (min (max lo first) last) (min (max hi first) last) ≡ between lo hi
  both = sum-clipped f lo hi first last o (omega arith) z

  -- all from the seam on
  pub sum-past : seam ≤ lo → between (min (max lo seam) last) (min (max hi seam) last) ≡ between lo hi
  sum-past h = ap₂ between (sym (clip-past lo first seam last p q h)) (sym (clip-past hi first seam last p q (omega arith))) ∙ both

  -- all up to the seam
  pub sum-before : lo < seam → min (max hi seam) last ≤ seam → between (min (max lo first) seam) (min (max hi first) seam) ≡ between lo hi
  sum-before h l = ap₂ between (sym (clip-before lo first seam last p q (omega arith))) (sym (at-seam hi first seam last p q l)) ∙ both

  -- some on either side
  pub sum-across : lo < seam → seam < min (max hi seam) last → between (min (max lo first) seam) (min (max hi first) seam) +ℤ between seam (min (max hi seam) last) ≡ between lo hi
  sum-across h l =
      let a = min (max lo first) seam in
      let b = min (max hi seam) last in
      let c = past-seam hi first seam last p l in
      ap (λ (x : ℕ). between a x +ℤ between seam b) c.0
      ∙ ap₂ ◌+ℤ◌ (sym (sum-range a seam f (omega arith))) (sym (sum-range seam b f (omega arith)))
      ∙ three (sum_to a f) (sum_to seam f) (sum_to b f)
      ∙ sum-range a b f (omega arith)
      ∙ ap₂ between (sym (clip-before lo first seam last p q (omega arith))) (sym c.1)
      ∙ both

right-none : (n m : ℕ) (f : ℕ → ℤ) → m ≤ n → sum_to (m - n) f ≡ pos 0
right-none n m f h = let e : m - n ≡ 0 = omega arith in ap (λ (k : ℕ). sum_to k f) e ∙ sum-none 0 f (λ k k<. absurd (omega arith))

left-none : (n j r : ℕ) (f : ℕ → ℤ) → r ≤ j → sum_to n f -ℤ sum_to (n - (r - j)) f ≡ pos 0
left-none n j r f h =
    let e : n - (r - j) ≡ n = omega arith in
    ap (λ (k : ℕ). sum_to n f -ℤ sum_to k f) e ∙ ring (search (sums, any (sum_to n f))) (omega arith)

sum_from_0 : (m : ℕ) (f : ℕ → ℤ) → sum_to m f ≡ sum_to (m - 0) (λ k. f (0 + k))
sum_from_0 m f =
    let e : m - 0 ≡ m = omega arith in
    sum-cong m f (λ k. f (0 + k)) (λ k k<. let p : k ≡ 0 + k = omega arith in ap f p) ∙ ap (λ (n : ℕ). sum_to n (λ k. f (0 + k))) (sym e)

-- ---- the columns of a row near a column, along the row and past an end of it
module _ (z : Frame) (j r : ℕ) (hj : j < z.columns) (apart : Apart z r) (f : ℕ → ℤ) where
  abbrev near : ℤ
  near = sum_to z.columns (λ n. pick (leb (column_gap z j n) r) (f n))

  abbrev along : ℕ → ℕ → ℤ
  along start end = sum_to (end - start) (λ k. f (start + k))

  module _ (start end : ℕ) (s : start ≡ j - r) (e : end ≡ min (suc (j + r)) z.columns) where
    parts : near ≡ along start end +ℤ round_end z.columns_wrap z.columns j r f
    parts =
        let lo : min (j - r) z.columns ≡ start = omega (arith, s) in
        let o : start ≤ end = omega (arith, s, e) in
        near-columns z j r hj apart f
        ∙ ap (λ (x : ℤ). x +ℤ round_end z.columns_wrap z.columns j r f) (ap₂ (λ (a b : ℕ). sum_to a f -ℤ sum_to b f) (sym e) lo ∙ sum-range start end f o)

    ends : (w : Bool) → z.columns_wrap ≡ w → (x : ℤ) → round_end w z.columns j r f ≡ x → along start end +ℤ x ≡ near
    ends w t x d = sym (parts ∙ ap (λ (y : ℤ). along start end +ℤ y) (ap (λ (v : Bool). round_end v z.columns j r f) t ∙ d))

    -- no column past an end
    pub near-clipped : z.columns_wrap ≡ false → along start end ≡ near
    near-clipped t = sym (+ℤ_idr (along start end)) ∙ ends false t (pos 0) refl

    pub near-inside : z.columns_wrap ≡ true → suc (j + r) ≤ z.columns → r ≤ j → along start end ≡ near
    near-inside t h l = sym (+ℤ_idr (along start end)) ∙ ends true t (pos 0) (rw (right-none z.columns (suc (j + r)) f h, left-none z.columns j r f l) refl)

    pub near-right : (m : ℕ) → m + z.columns ≡ suc (j + r) → z.columns_wrap ≡ true → z.columns < suc (j + r) → along start end +ℤ along 0 m ≡ near
    near-right m e t h =
        let m-is : suc (j + r) - z.columns ≡ m = omega arith in
        ends true t (along 0 m) (rw m-is (rw (left-none z.columns j r f (omega (arith, apart (rw t tt)))) (+ℤ_idr (sum_to m f)) ∙ sum_from_0 m f))

    pub near-left : z.columns_wrap ≡ true → suc (j + r) ≤ z.columns → j < r → along start end +ℤ along (z.columns - (r - j)) z.columns ≡ near
    near-left t h l =
        let a = z.columns - (r - j) in
        ends true t (along a z.columns) (rw (right-none z.columns (suc (j + r)) f h) (+ℤ_idl (sum_to z.columns f -ℤ sum_to a f)) ∙ sum-range a z.columns f (omega arith))

-- ---- the window's part in a row
-- the part of row m that lies in the rows of the window on (i, j)
unfoldable pub window_row : Inputs → (i j m : ℕ) → ℤ
window_row x i j m =
    let z = x.source.frame in
    sum_to z.columns (λ n. pick (leb (column_gap z j n) (reach (shape_of x.window) (row_gap z i m))) (plane_at x.source m n))

-- the reach in that row
pub row-total : (x : Inputs) (i j m far : ℕ) → far ≡ reach (shape_of x.window) (row_gap x.source.frame i m) → sum_to x.source.frame.columns (λ n. pick (leb (column_gap x.source.frame j n) far) (plane_at x.source m n)) ≡ window_row x i j m
unfolding window_row
row-total x i j m far is_reach = ap (λ (r : ℕ). sum_to x.source.frame.columns (λ n. pick (leb (column_gap x.source.frame j n) r) (plane_at x.source m n))) is_reach

-- ---- the window row by row, from its first row on
pub rows-total : (x : Inputs) (i j : ℕ) →
    let h = height (shape_of x.window) in
    i < x.source.frame.rows →
    sum_to (min (suc (i + h)) x.source.frame.rows - (i - h)) (λ k. window_row x i j (i - h + k)) ≡ direct_sum x i j
unfolding direct_sum window_row
rows-total x i j l =
    let z = x.source.frame in
    let s = shape_of x.window in
    let h = height s in
    let row : ℕ → ℤ = λ m. sum_to z.columns (λ n. pick (leb (column_gap z j n) (reach s (row_gap z i m))) (plane_at x.source m n)) in
    let top : min (i - h) z.rows ≡ i - h = omega arith in
    sym (by_rows z s (plane_at x.source) i j ∙ near-range z.rows i h row ∙ ap (λ (k : ℕ). sum_to (min (suc (i + h)) z.rows - k) (λ q. row (k + q))) top)

-- the direct sum of pictures of levels is far below 2 ^ 63
pub direct-fits : (x : Inputs) (i j : ℕ) → T (frame_legal x.source.frame) → Levels x.source.f → Levels x.source.g → wrap (direct_sum x i j) ≡ direct_sum x i j
unfolding direct_sum
direct-fits x i j legal levels_f levels_g =
    let z = x.source.frame in
    let l = in-limits z legal in
    wrap-small (window_sum z (shape_of x.window) (plane_at x.source) i j)
    (omega (arith, window-bound z (shape_of x.window) (plane_at x.source) (2 ^ 30) i j (plane-bound x.source levels_f levels_g), mul-le-mul l.few_rows l.few_columns))

-- after the window's last row the loop has the direct sum
pub rows-done : (x : Inputs) (i j top bottom m : ℕ) (s : ℤ) →
    let h = height (shape_of x.window) in
    i < x.source.frame.rows → top ≡ i - h → bottom ≡ min (suc (i + h)) x.source.frame.rows → m ≡ bottom →
    T (frame_legal x.source.frame) → Levels x.source.f → Levels x.source.g →
    s ≡ wrap (sum_to (m - top) (λ k. window_row x i j (top + k))) → s ≡ direct_sum x i j
rows-done x i j top bottom m s l et eb em legal levels_f levels_g e =
    e
    ∙ ap (λ (n : ℕ). wrap (sum_to (n - top) (λ k. window_row x i j (top + k)))) (em ∙ eb)
    ∙ ap (λ (n : ℕ). wrap (sum_to (min (suc (i + height (shape_of x.window))) x.source.frame.rows - n) (λ k. window_row x i j (n + k)))) et
    ∙ ap wrap (rows-total x i j l)
    ∙ direct-fits x i j legal levels_f levels_g
