-- A rectangle wholly outside the picture, and worked examples of a table with foreign contents.
-- Assumes no_rows.
use mathlib.Core.Path.{◌≡◌, refl, ap}
use Prim.Native.Nat.{ℕ, zero, suc, ◌+◌, ◌-◌, ◌*◌, ◌≤◌, min}
use native.Mathlib.Omega.{arith}
use mathlib.Core.List.{List, [], ◌∷◌}
use lib.ListN.{get_or}
use lib.IntN.{ℤ, pos, negsuc, ◌+ℤ◌, ◌-ℤ◌}
use Rattle.numbers.specs.Sum.{sum_to, pick}
use Rattle.numbers.specs.Wrap.{wrap}
use Rattle.numbers.proofs.Linear.{any, sums, ring}
use Rattle.spec_picture.specs.declared.Frame.{Frame}
use Rattle.spec_picture.specs.declared.Window.{Window}
use Rattle.spec_picture.specs.Frame.{frame, looped, frame_legal}
use Rattle.spec_picture.specs.Window.{window, shape_of, height, reach, width, window_legal, rectangle_legal}
use Rattle.spec_picture.specs.Refusal.{refusal}
use mathlib.Core.Option.{some}
use Rattle.spec_table.specs.Table.{corner, four_corners, read_shape, read_table, read_checks}

no_rows : (a b : ℤ) → a -ℤ a -ℤ b +ℤ b ≡ pos 0
no_rows a b = ring (search (sums, any a, any b)) (omega arith)

no-columns : (a b : ℤ) → a -ℤ b -ℤ a +ℤ b ≡ pos 0
no-columns a b = ring (search (sums, any a, any b)) (omega arith)

-- "so a rectangle wholly outside gives 0", whatever the table holds
module _ (z : Frame) (t : List ℤ) where
  same_row : (x y v : ℕ) → 1 ≤ z.rows → z.rows ≤ x → z.rows ≤ y → corner z t x v ≡ corner z t y v
  unfolding corner
  same_row zero y v h k l = absurd (omega arith)
  same_row (suc x) zero v h k l = absurd (omega arith)
  same_row (suc x) (suc y) zero h k l = refl
  same_row (suc x) (suc y) (suc v) h k l =
      let e : min x (z.rows - 1) ≡ min y (z.rows - 1) = omega arith in
      ap (λ (m : ℕ). get_or t (m * z.columns + min v (z.columns - 1)) (pos 0)) e

  same-column : (u x y : ℕ) → 1 ≤ z.columns → z.columns ≤ x → z.columns ≤ y → corner z t u x ≡ corner z t u y
  unfolding corner
  same-column zero x y h k l = refl
  same-column (suc u) zero y h k l = absurd (omega arith)
  same-column (suc u) (suc x) zero h k l = absurd (omega arith)
  same-column (suc u) (suc x) (suc y) h k l =
      let e : min x (z.columns - 1) ≡ min y (z.columns - 1) = omega arith in
      ap (λ (n : ℕ). get_or t (min u (z.rows - 1) * z.columns + n) (pos 0)) e

  pub below-0 : (top bottom left right : ℕ) → 1 ≤ z.rows → z.rows ≤ top → z.rows ≤ bottom → four_corners z t top bottom left right ≡ pos 0
  unfolding four_corners
  below-0 top bottom left right h k l = rw (same_row bottom top right h l k, same_row bottom top left h l k) (no_rows (corner z t top right) (corner z t top left))

  pub right-0 : (top bottom left right : ℕ) → 1 ≤ z.columns → z.columns ≤ left → z.columns ≤ right → four_corners z t top bottom left right ≡ pos 0
  unfolding four_corners
  right-0 top bottom left right h k l = rw (same-column bottom right left h l k, same-column top right left h l k) (no-columns (corner z t bottom left) (corner z t top left))

  pub above-0 : (left right : ℕ) → four_corners z t 0 0 left right ≡ pos 0
  unfolding four_corners corner
  above-0 left right = refl

  -- nor is there a column between a column and itself, as on the left of the picture
  pub no-width : (top bottom at : ℕ) → four_corners z t top bottom at at ≡ pos 0
  unfolding four_corners
  no-width top bottom at = no-columns (corner z t bottom at) (corner z t top at)

  pub left-0 : (top bottom : ℕ) → four_corners z t top bottom 0 0 ≡ pos 0
  left-0 top bottom = no-width top bottom 0

-- 5 7 / 11 100, and 0 -1 / 0 2^63-1
abbrev foreign : List ℤ
foreign = pos 5 ∷ pos 7 ∷ pos 11 ∷ pos 100 ∷ []

abbrev large : List ℤ
large = pos 0 ∷ negsuc 0 ∷ pos 0 ∷ pos 9223372036854775807 ∷ []

abbrev sum : List ℤ → Window → (i j : ℕ) → ℤ
sum t w i j = read_table (frame 2 2) t w i j

-- "that same corner formula, with sums that wrap at 64 bits": one cell, a rectangle past the border, a diamond, and a sum past 2^63 - 1
pub foreign-sums :
    (sum foreign (window 1 (pos 0) (pos 0)) 1 1 ≡ pos 87) × (sum foreign (window 1 (pos 1) (pos 1)) 0 0 ≡ pos 100) ×
    (sum foreign (window 2 (pos 1) (pos 0)) 0 0 ≡ pos 13) × (sum large (window 1 (pos 0) (pos 0)) 1 1 ≡ negsuc 9223372036854775807)
unfolding read_table read_shape four_corners corner shape_of height reach wrap sum_to pick
foreign-sums = (refl, refl, refl, refl)

-- where columns wrap, "for foreign contents too": 5 7 11 100 over 1 x 4, a row of three about the first column and about the last; a rectangle over the rows of 5 7 / 11 100 that is two columns wide does not fit
abbrev loop : Window → (j : ℕ) → ℤ
loop w j = read_table (looped 1 4) foreign w 0 j

pub round-sums :
    (loop (window 1 (pos 0) (pos 1)) 0 ≡ pos 96) × (loop (window 1 (pos 0) (pos 1)) 3 ≡ pos 98) × (loop (window 1 (pos 0) (pos 1)) 1 ≡ pos 11) × (loop (window 2 (pos 1) (pos 0)) 0 ≡ pos 96) ×
    (refusal (read_checks (looped 2 2) foreign (window 1 (pos 0) (pos 1)) 2 0) ≡ some 11)
unfolding read_table read_shape four_corners corner shape_of height reach width wrap sum_to pick refusal frame_legal window_legal rectangle_legal
round-sums = (refl, refl, refl, refl, refl)
