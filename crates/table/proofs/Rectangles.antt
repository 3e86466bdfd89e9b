-- A rectangle's corners and their sum, as code finds them.
-- Assumes nothing.
use mathlib.Core.Path.{◌≡◌, refl, sym, ◌∙◌, ap, ap₂}
use mathlib.Core.List.{List}
use Prim.Native.Nat.{ℕ, zero, suc, ◌+◌, ◌-◌, ◌*◌, ◌≤◌, ◌<◌, min}
use native.Mathlib.Omega.{arith}
use mathlib.Core.Bool.{Bool, true, false, ◌&&◌, ◌||◌, true≢false}
use Rattle.numbers.proofs.Tests.{or-false-left, or-false-right, off}
use lib.Dec.{T, ltb, ltb→lt, nltb→le}
use lib.ListN.{length, get_or}
use lib.IntN.{ℤ, pos, ◌+ℤ◌, ◌-ℤ◌, +ℤ_idr}
use Rattle.numbers.specs.Sum.{sum_to}
use Rattle.numbers.specs.Wrap.{wrap}
use Rattle.numbers.proofs.Grids.{place_inside}
use Rattle.numbers.proofs.Sums.{near-range}
use Rattle.numbers.proofs.Running.{wrap-wrap}
use Rattle.numbers.proofs.Wraps.{wrap-add, wrap-sub, wrap-both, wrap-small}
use Rattle.spec_picture.specs.declared.Frame.{Frame}
use Rattle.spec_picture.specs.Frame.{frame_legal, row_gap, cells}
use Rattle.spec_picture.specs.Window.{Shape, rectangle, slanted, window_legal, shape_of, is_rectangle, height, reach, width}
use Rattle.spec_picture.specs.declared.Window.{Window}
use Rattle.spec_picture.proofs.Refusals.{InLimits, in-limits}
use Rattle.spec_picture.proofs.Windows.{dual, small, reach_width}
use Rattle.table.specs.Ends.{beyond_an_end, Round}
use Rattle.spec_table.specs.Table.{corner, four_corners, round_the_edge, read_rectangle, read_rows, read_shape}
use Rattle.spec_table.proofs.Examples.{no-width}

-- ---- a corner
module _ (z : Frame) (t : List ℤ) where
  -- "T being 0 left of and above the picture"
  pub corner-above : (x y : ℕ) → x ≡ 0 → pos 0 ≡ corner z t x y
  unfolding corner
  corner-above zero y e = refl
  corner-above (suc x) y e = absurd (omega arith)

  pub corner-left : (x y : ℕ) → y ≡ 0 → pos 0 ≡ corner z t x y
  unfolding corner
  corner-left zero y e = refl
  corner-left (suc x) zero e = refl
  corner-left (suc x) (suc y) e = absurd (omega arith)

  -- the last row and column that x and y reach
  module _ (legal : T (frame_legal z)) where
    lim : InLimits z
    lim = in-limits z legal

    pub corner-inner : (x y u v : ℕ) → 0 < x → 0 < y → u ≡ min x z.rows → v ≡ min y z.columns → get_or t ((u - 1) * z.columns + (v - 1)) (pos 0) ≡ corner z t x y
    unfolding corner
    corner-inner zero y u v h k p q = absurd (omega arith)
    corner-inner (suc x) zero u v h k p q = absurd (omega arith)
    corner-inner (suc x) (suc y) u v h k p q =
        let p' : u - 1 ≡ min x (z.rows - 1) = omega (arith, lim.some_rows) in
        let q' : v - 1 ≡ min y (z.columns - 1) = omega (arith, lim.some_columns) in
        rw (p', q')

    -- the place that is read is one of the table's
    pub corner-place : (x y u v : ℕ) → length t ≡ cells z → u ≡ min x z.rows → v ≡ min y z.columns → (u - 1) * z.columns + (v - 1) < length t
    corner-place x y u v full p q = rw full (place_inside (omega (arith, lim.some_rows)) (omega (arith, lim.some_columns)))

-- ---- four corners
wrap-four : (a b c d : ℤ) → wrap (wrap (wrap (a -ℤ b) -ℤ c) +ℤ d) ≡ wrap (a -ℤ b -ℤ c +ℤ d)
wrap-four a b c d = ap (λ (v : ℤ). wrap (v +ℤ d)) (wrap-sub (a -ℤ b) c) ∙ wrap-add (a -ℤ b -ℤ c) d

-- the sum of four corners that were read, wrapped at each step
pub four-read : (z : Frame) (t : List ℤ) (top bottom left right : ℕ) (a b c d v w r : ℤ)
    → a ≡ corner z t bottom right → b ≡ corner z t top right → c ≡ corner z t bottom left → d ≡ corner z t top left
    → v ≡ wrap (a -ℤ b) → w ≡ wrap (v -ℤ c) → r ≡ wrap (w +ℤ d)
    → r ≡ wrap (four_corners z t top bottom left right)
unfolding four_corners
four-read z t top bottom left right a b c d v w r ea eb ec ed ev ew er =
    rw (er, ew, ev, ← ea, ← eb, ← ec, ← ed) (wrap-four a b c d)

-- a stretch of no columns
pub none-read : (z : Frame) (t : List ℤ) (top bottom left right : ℕ) → left ≡ right → pos 0 ≡ wrap (four_corners z t top bottom left right)
none-read z t top bottom left right e = sym (ap wrap (ap (λ (k : ℕ). four_corners z t top bottom k right) e ∙ no-width z t top bottom right) ∙ wrap-small (pos 0) (omega arith))

-- ---- past the ends of the row
module _ (z : Frame) (t : List ℤ) (top bottom b j : ℕ) where
  -- no column lies there where columns clip, or where the window does not reach so far
  none-beyond : (w : Bool) → (w && (ltb z.columns (suc (j + b)) || ltb j b)) ≡ false → round_the_edge w z t top bottom b j ≡ pos 0
  none-beyond false e = refl
  none-beyond true e =
      let within = nltb→le z.columns (suc (j + b)) (rw (or-false-left (ltb z.columns (suc (j + b))) (ltb j b) e) tt) in
      let near = nltb→le j b (rw (or-false-right (ltb z.columns (suc (j + b))) (ltb j b) e) tt) in
      let past : suc (j + b) - z.columns ≡ 0 = omega (arith, within) in
      let before : z.columns - (b - j) ≡ z.columns = omega (arith, near) in
      ap₂ (λ (u v : ℕ). four_corners z t top bottom 0 u +ℤ four_corners z t top bottom v z.columns) past before
      ∙ ap₂ ◌+ℤ◌ (no-width z t top bottom 0) (no-width z t top bottom z.columns)

  -- what was read there
  pub beyond-read : (past before : ℕ) → past ≡ suc (j + b) - z.columns → before ≡ z.columns - (b - j) → (u v y : ℤ) → u ≡ wrap (four_corners z t top bottom 0 past) → v ≡ wrap (four_corners z t top bottom before z.columns)
      → y ≡ wrap (u +ℤ v) → y ≡ wrap (round_the_edge true z t top bottom b j)
  beyond-read past before ep eb u v y eu ev ey =
      let first = four_corners z t top bottom 0 (suc (j + b) - z.columns) in
      let last = four_corners z t top bottom (z.columns - (b - j)) z.columns in
      let is-first : u ≡ wrap first = rw (← ep) eu in
      let is-last : v ≡ wrap last = rw (← eb) ev in
      ey ∙ ap₂ (λ (p q : ℤ). wrap (p +ℤ q)) is-first is-last ∙ wrap-both first last

module _ (z : Frame) (t : List ℤ) (a b i j top bottom left right : ℕ) (et : top ≡ i - a) (eb : bottom ≡ suc (i + a)) (el : left ≡ j - b) (er : right ≡ suc (j + b)) (x : ℤ) (ex : x ≡ wrap (four_corners z t top bottom left right)) where
  abbrev along : ℤ
  along = four_corners z t (i - a) (suc (i + a)) (j - b) (suc (j + b))

  is-along : x ≡ wrap along
  is-along = rw (← et, ← eb, ← el, ← er) ex

  -- the rectangle, where it does not go round, and where it does
  pub along-read : beyond_an_end z b j ≡ false → x ≡ wrap (read_rectangle z t a b i j)
  along-read none =
      is-along ∙ ap wrap (sym (+ℤ_idr along) ∙ ap (λ (v : ℤ). along +ℤ v) (sym (none-beyond z t (i - a) (suc (i + a)) b j z.columns_wrap none)))

  pub round-read : z.columns_wrap ≡ true → (y r : ℤ) → y ≡ wrap (round_the_edge true z t top bottom b j) → r ≡ wrap (x +ℤ y) → r ≡ wrap (read_rectangle z t a b i j)
  round-read wraps y r ey e =
      let is-beyond : y ≡ wrap (round_the_edge true z t (i - a) (suc (i + a)) b j) = rw (← et, ← eb) ey in
      e ∙ ap₂ (λ (p q : ℤ). wrap (p +ℤ q)) is-along is-beyond ∙ wrap-both along (round_the_edge true z t (i - a) (suc (i + a)) b j)
      ∙ ap (λ (w : Bool). wrap (along +ℤ round_the_edge w z t (i - a) (suc (i + a)) b j)) (sym wraps)

-- a window's widest row tells for the others
narrower : (z : Frame) (j b w : ℕ) → b ≤ w → beyond_an_end z w j ≡ false → beyond_an_end z b j ≡ false
narrower z j b w l e = go z.columns_wrap e
  where
    go : (s : Bool) → (s && (ltb z.columns (suc (j + w)) || ltb j w)) ≡ false → (s && (ltb z.columns (suc (j + b)) || ltb j b)) ≡ false
    go false e = refl
    go true e =
        let within = nltb→le z.columns (suc (j + w)) (rw (or-false-left (ltb z.columns (suc (j + w))) (ltb j w) e) tt) in
        let near = nltb→le j w (rw (or-false-right (ltb z.columns (suc (j + w))) (ltb j w) e) tt) in
        off (ltb z.columns (suc (j + b)) || ltb j b) (λ t. none (ltb z.columns (suc (j + b))) (ltb j b) (λ u. omega (arith, ltb→lt z.columns (suc (j + b)) u, within)) (λ u. omega (arith, ltb→lt j b u, near)) t)
      where
        none : (p q : Bool) → (T p → ⊥) → (T q → ⊥) → T (p || q) → ⊥
        none true q h k t = h tt
        none false q h k t = k t

pub row-round : (z : Frame) (s : Shape) (j d b : ℕ) (round : Bool) → b ≡ reach s d → Round z (width s) j round → Round z b j round
row-round z s j d b round e r = record {
  none = λ t. narrower z j b (width s) (omega (arith, e, reach_width s d)) (r.none t);
  wraps = r.wraps;
}

pub same-round : (z : Frame) (w j b : ℕ) (round : Bool) → b ≡ w → Round z w j round → Round z b j round
same-round z w j b round e r = record { none = λ t. ap (λ (k : ℕ). beyond_an_end z k j) e ∙ r.none t; wraps = r.wraps }

-- what the test of the widest row says
pub goes-round : (z : Frame) (w j : ℕ) → z.columns_wrap ≡ true → Round z w j true
goes-round z w j wraps = record { none = λ t. absurd t; wraps = λ t. wraps }

pub goes-not : (z : Frame) (w j b : ℕ) → b ≡ w → beyond_an_end z b j ≡ false → Round z w j false
goes-not z w j b e is = record { none = λ t. ap (λ (k : ℕ). beyond_an_end z k j) (sym e) ∙ is; wraps = λ t. absurd t }

pub does-wrap : (z : Frame) (w j : ℕ) → beyond_an_end z w j ≡ true → z.columns_wrap ≡ true
does-wrap z w j e = on-left z.columns_wrap (ltb z.columns (suc (j + w)) || ltb j w) e
  where
    on-left : (p q : Bool) → (p && q) ≡ true → p ≡ true
    on-left true q e = refl
    on-left false q e = e

-- ---- a window row by row
-- the part of row m that lies in the window on (i, j)
abbrev pub row_part : Frame → List ℤ → Shape → (i j m : ℕ) → ℤ
row_part z t s i j m = read_rectangle z t 0 (reach s (row_gap z i m)) m j

-- a row's part that was read
pub part-read : (z : Frame) (t : List ℤ) (s : Shape) (i j m d b : ℕ) (x : ℤ) → d ≡ row_gap z i m → b ≡ reach s d → x ≡ wrap (read_rectangle z t 0 b m j)
    → wrap x ≡ wrap (row_part z t s i j m)
part-read z t s i j m d b x ed eb ex = rw (ex, eb, ed) (wrap-wrap (row_part z t s i j m))

-- the sum of the rows that a window holds, from its first up to its last
pub rows-read : (z : Frame) (t : List ℤ) (s : Shape) (i j lo m h : ℕ) (x : ℤ) → x ≡ wrap (sum_to (m - lo) (λ k. row_part z t s i j (lo + k)))
    → i < z.rows → h ≡ height s → lo ≡ i - h → m ≡ min (suc (i + h)) z.rows
    → x ≡ wrap (read_rows z t s i j)
rows-read z t s i j lo m h x ex hi eh el em =
    let e : lo ≡ min (i - height s) z.rows = omega arith in
    let f : m ≡ min (suc (i + height s)) z.rows = omega arith in
    rw (ex, e, f) (ap wrap (sym (near-range z.rows i (height s) (row_part z t s i j))))

-- ---- a window by its shape
pub read-as-rectangle : (z : Frame) (t : List ℤ) (s : Shape) (a b i j : ℕ) (x : ℤ) → is_rectangle s ≡ true → a ≡ height s → b ≡ width s
    → x ≡ wrap (read_rectangle z t a b i j) → x ≡ read_shape z t s i j
unfolding read_shape height width
read-as-rectangle z t (rectangle c d) a b i j x e ea eb ex = rw (ex, ea, eb)
read-as-rectangle z t (slanted o) a b i j x e ea eb ex = absurd (true≢false (sym e))

pub read-as-rows : (z : Frame) (t : List ℤ) (s : Shape) (i j : ℕ) (x : ℤ) → is_rectangle s ≡ false → x ≡ wrap (read_rows z t s i j) → x ≡ read_shape z t s i j
unfolding read_shape
read-as-rows z t (rectangle c d) i j x e ex = absurd (true≢false e)
read-as-rows z t (slanted o) i j x e ex = ex

-- a legal window's width is at most 127
pub width_small : (w : Window) → T (window_legal w) → width (shape_of w) ≤ 127
width_small w t =
    let s = shape_of w in
    omega (arith, ((dual s).from 0 (width s) (omega arith) (omega arith)).1, (small w t).narrow 0)

-- and so is its reach in any row
pub reach-small : (w : Window) → T (window_legal w) → (d r : ℕ) → r ≡ reach (shape_of w) d → r ≤ 127
reach-small w t d r e = omega (arith, e, (small w t).narrow d)
