-- "Cumulative table": building and reading.
-- Assumes nothing.
use Rattle.std.specs.Prelude.{ℕ, zero, suc, ◌+◌, ◌*◌, ◌-◌, min, List, [], ◌∷◌, ◌++◌, Bool, true, false, leb, length, get_or, ℤ, pos, ◌+ℤ◌, ◌-ℤ◌}
use Rattle.numbers.specs.Sum.{sum_to, pick}
use Rattle.numbers.specs.Grid.{grid}
use Rattle.numbers.specs.Wrap.{wrap}
use Rattle.spec_picture.specs.Refusal.{Outcome, Check, Filling, refusal, outcome, filling}
use Rattle.spec_picture.specs.declared.Window.{Window}
use Rattle.spec_picture.specs.Window.{Shape, rectangle, slanted, shape_of, height, reach}
use Rattle.spec_picture.specs.declared.Frame.{Frame}
use Rattle.spec_picture.specs.Frame.{row_gap, cells}
use Rattle.spec_picture.specs.Picture.{Source, plane_at}
use Rattle.spec_picture.specs.Conditions.{check1, check3, check4, check5, check6, check8, check11, picture_checks}

-- ---- building
-- "T(i, j) = the plane's sum over all (p, q) with p ≤ i and q ≤ j"
unfoldable pub table_at : (ℕ → ℕ → ℤ) → ℕ → ℕ → ℤ
table_at P i j = sum_to (suc i) (λ p. sum_to (suc j) (λ q. P p q))

-- "Building fills a lent area of 64-bit signed numbers, one a cell, with T(i, j)"
unfoldable pub table_of : Source → List ℤ
table_of x = grid x.frame.rows x.frame.columns (table_at (plane_at x))

-- building takes pictures, shift, plane and the area: 1, 2, 4, 5, 8
abbrev pub build_checks : Source → List ℤ → List Check
build_checks x area =
    picture_checks x.frame x.f x.g ++ (check4 x.shift ∷ check5 x.plane ∷ check8 (cells x.frame) (length area) ∷ [])

unfoldable pub build_call : Source → List ℤ → Filling
build_call x area = filling (refusal (build_checks x area)) area (table_of x)

-- ---- reading
-- the table's number with x rows and y columns up to it: "T being 0 left of and above the picture,
-- and a corner past its last row or column being taken on that last one"
unfoldable pub corner : Frame → List ℤ → ℕ → ℕ → ℤ
corner z t zero y = pos 0
corner z t (suc x) zero = pos 0
corner z t (suc x) (suc y) = get_or t (min x (z.rows - 1) * z.columns + min y (z.columns - 1)) (pos 0)

-- "the four corners of equation 7": the rectangle of the rows from top and the columns from left, up to bottom and right and without those
unfoldable pub four_corners : Frame → List ℤ → (top bottom left right : ℕ) → ℤ
four_corners z t top bottom left right = corner z t bottom right -ℤ corner z t top right -ℤ corner z t bottom left +ℤ corner z t top left

-- where columns wrap: the columns past the last one are the first ones, and those before the first one are the last ones
abbrev pub round_the_edge : Bool → Frame → List ℤ → (top bottom b j : ℕ) → ℤ
round_the_edge false z t top bottom b j = pos 0
round_the_edge true z t top bottom b j = four_corners z t top bottom 0 (suc (j + b) - z.columns) +ℤ four_corners z t top bottom (z.columns - (b - j)) z.columns

-- the rectangle of half sizes a and b on the cell (i, j)
abbrev pub read_rectangle : Frame → List ℤ → (a b i j : ℕ) → ℤ
read_rectangle z t a b i j = four_corners z t (i - a) (suc (i + a)) (j - b) (suc (j + b)) +ℤ round_the_edge z.columns_wrap z t (i - a) (suc (i + a)) b j

-- "A diamond or hexagon is read as one-row rectangles."
abbrev pub read_rows : Frame → List ℤ → Shape → (i j : ℕ) → ℤ
read_rows z t s i j = sum_to z.rows (λ m. pick (leb (row_gap z i m) (height s)) (read_rectangle z t 0 (reach s (row_gap z i m)) m j))

-- "that same corner formula, with sums that wrap at 64 bits"
unfoldable pub read_shape : Frame → List ℤ → Shape → (i j : ℕ) → ℤ
read_shape z t (rectangle a b) i j = wrap (read_rectangle z t a b i j)
read_shape z t (slanted o) i j = wrap (read_rows z t (slanted o) i j)

unfoldable pub read_table : Frame → List ℤ → Window → (i j : ℕ) → ℤ
read_table z t w i j = read_shape z t (shape_of w) i j

-- reading takes the table, the frame, a window and a cell: 1, 3, 11, 6, 8
abbrev pub read_checks : Frame → List ℤ → Window → ℕ → ℕ → List Check
read_checks z t w i j = check1 z ∷ check3 w ∷ check11 z w ∷ check6 z i j ∷ check8 (cells z) (length t) ∷ []

unfoldable pub read_call : Frame → List ℤ → Window → ℕ → ℕ → Outcome ℤ
read_call z t w i j = outcome (refusal (read_checks z t w i j)) (read_table z t w i j)
