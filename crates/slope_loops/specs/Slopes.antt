-- The slopes of a slanted window's edges. From row i to i+1 the cells on the lower edge enter and those on the upper edge leave; beside its flat
-- part each edge has two slopes, and the slopes of row i+1 are those of row i moved by a column, with two cells more and two cells less.
-- Assumes nothing.
use Rattle.std.specs.Prelude.{ℕ, ◌+◌, ◌-◌, Bool, true, false, leb, ltb, ℤ, ◌+ℤ◌, ◌-ℤ◌}
use Rattle.numbers.specs.Sum.{sum_to, pick}
use Rattle.spec_picture.specs.declared.Frame.{Frame}
use Rattle.spec_picture.specs.Frame.{column_gap}
use Rattle.spec_rows.specs.Rows.{enter_leave}
use Rattle.slope_loops.specs.declared.padding.TheConstants.{ABOVE, MARGIN}

-- the column at place x of a row, where columns wrap: a place is at most once round
abbrev pub round_by : (before within : Bool) → (columns x : ℕ) → ℕ
round_by true within c x = x + c - MARGIN
round_by false true c x = x - MARGIN
round_by false false c x = x - MARGIN - c

abbrev pub column_round : (columns x : ℕ) → ℕ
column_round c x = round_by (ltb x MARGIN) (ltb x (MARGIN + c)) c x

-- a row MARGIN places further right: zeros beside it where columns clip, and where they wrap the cells at its other end
abbrev pub beside_row : (wraps : Bool) → (columns : ℕ) → (ℕ → ℤ) → (x : ℕ) → ℤ
beside_row false c f x = pick (leb MARGIN x) (f (x - MARGIN))
beside_row true c f x = f (column_round c x)

-- row y of the plane ABOVE rows further down, with zeros above
abbrev pub lowered : (ℕ → ℕ → ℤ) → (y n : ℕ) → ℤ
lowered P y n = pick (leb ABOVE y) (P (y - ABOVE) n)

-- the plane ABOVE rows further down and MARGIN places further right: no place of a window then lies before row or column 0
unfoldable pub padded : Frame → (ℕ → ℕ → ℤ) → (y x : ℕ) → ℤ
padded z P y x = beside_row z.columns_wrap z.columns (lowered P y) x

-- a slope of each edge, n cells of each: t rows below row y + 1 the cell at column `lower t` enters, t rows above row y the one at column `upper t` leaves
unfoldable pub edge_slopes : (ℕ → ℕ → ℤ) → (lower upper : ℕ → ℕ) → (n y : ℕ) → ℤ
edge_slopes Q lower upper n y = sum_to n (λ t. Q (y + 1 + t) (lower t) -ℤ Q (y - t) (upper t))

-- the ends of a window of width w on column x, where it is t columns narrower on both sides
abbrev pub on_right : (w x : ℕ) → ℕ → ℕ
on_right w x t = x + w - t

abbrev pub on_left : (w x : ℕ) → ℕ → ℕ
on_left w x t = x + t - w

-- the slopes that rise from left to right, of a window of width w on the cell (y, x): the lower edge's right slope and the upper edge's left slope
abbrev pub rising : (ℕ → ℕ → ℤ) → (w n y x : ℕ) → ℤ
rising Q w n y x = edge_slopes Q (on_right w x) (on_left w x) n y

-- those that fall: the lower edge's left slope and the upper edge's right slope
abbrev pub falling : (ℕ → ℕ → ℤ) → (w n y x : ℕ) → ℤ
falling Q w n y x = edge_slopes Q (on_left w x) (on_right w x) n y

-- what column j adds from row i to i+1 to the sum over a window of height h and width w: what enters and leaves at the flat parts of its edges, and at the slopes
unfoldable pub edges_change : Frame → (ℕ → ℕ → ℤ) → (h w i j : ℕ) → ℤ
edges_change z P h w i j =
    sum_to z.columns (λ n. pick (leb (column_gap z j n) (w - h)) (enter_leave z P i h n)) +ℤ (rising (padded z P) w h (ABOVE + i) (MARGIN + j) +ℤ falling (padded z P) w h (ABOVE + i) (MARGIN + j))
