-- Rows of a plane among zeros or wrapped cells, and the slopes of a window's edges as the code keeps them: ROW_LENGTH numbers each. In a row the picture's column 0 has
-- place MARGIN; the place of a slope shifts from row to row. The length is required of each, since the laws are of lists, which do not know that they are arrays.
-- Assumes nothing.
use Rattle.std.specs.Prelude.{◌≡◌, ℕ, ◌+◌, ◌-◌, ◌≤◌, ◌<◌, not, T, List, length, get_or, ℤ, pos, ◌+ℤ◌, ◌-ℤ◌}
use Rattle.std.specs.Int.Signed.{mag}
use Rattle.numbers.specs.Wrap.{wrap}
use Rattle.spec_picture.specs.declared.Frame.{Frame}
use Rattle.slope_loops.specs.Slopes.{padded}
use Rattle.slope_loops.specs.declared.loops.GatherPlaces.{GatherPlaces}
use Rattle.slope_loops.specs.declared.loops.SlidePlaces.{SlidePlaces}
use Rattle.slope_loops.specs.declared.padding.TheConstants.{MARGIN, ROW_LENGTH}

-- a row of numbers that, where columns clip, are 0 but for those at the picture's columns
pub record Blank (z : Frame) (buf : List ℤ) : Type 0 where
  pub size : length buf ≡ ROW_LENGTH
  pub low : T (not z.columns_wrap) → (x : ℕ) → x < MARGIN → get_or buf x (pos 0) ≡ pos 0
  pub high : T (not z.columns_wrap) → (x : ℕ) → MARGIN + z.columns ≤ x → get_or buf x (pos 0) ≡ pos 0

-- a row of numbers that are those of F at the picture's columns and `side` places beside them
pub record Holds (z : Frame) (side : ℕ) (F : ℕ → ℤ) (buf : List ℤ) : Type 0 where
  pub size : length buf ≡ ROW_LENGTH
  pub each : (x : ℕ) → MARGIN ≤ x + side → x < MARGIN + z.columns + side → get_or buf x (pos 0) ≡ F x

-- A row whose places beside the picture's columns are to become those at its other end: a picture's columns, of which there are as many.
pub record JoinRequires (columns side : ℕ) (buf : List ℤ) : Type 0 where
  pub size : length buf ≡ ROW_LENGTH
  pub few : columns ≤ 1024
  pub within : side ≤ MARGIN
  pub once : side ≤ columns

-- they are, and the picture's columns are as they were
pub record Joined (columns side : ℕ) (old now : List ℤ) : Type 0 where
  pub size : length now ≡ ROW_LENGTH
  pub middle : (x : ℕ) → MARGIN ≤ x → x < MARGIN + columns → get_or now x (pos 0) ≡ get_or old x (pos 0)
  pub left : (x : ℕ) → MARGIN ≤ x + side → x < MARGIN → get_or now x (pos 0) ≡ get_or old (x + columns) (pos 0)
  pub right : (x : ℕ) → MARGIN + columns ≤ x → x < MARGIN + columns + side → get_or now x (pos 0) ≡ get_or old (x - columns) (pos 0)

-- a row to be loaded, and how many places beside the picture's columns
pub record LoadRequires (z : Frame) (side : ℕ) (buf : List ℤ) : Type 0 where
  pub blank : Blank z buf
  pub few : z.columns ≤ 1024
  pub within : side ≤ MARGIN
  pub once : T z.columns_wrap → side ≤ z.columns

-- it has row y of the padded plane
pub record Loaded (z : Frame) (side : ℕ) (P : ℕ → ℕ → ℤ) (y : ℕ) (buf : List ℤ) : Type 0 where
  pub blank : Blank z buf
  pub holds : Holds z side (padded z P y) buf

-- n numbers from place p on are at most m in size
pub record AtMost (m : ℕ) (l : List ℤ) (p n : ℕ) : Type 0 where
  pub each : (x : ℕ) → x < n → mag (get_or l (x + p) (pos 0)) ≤ m

-- n numbers from place s on have become those of F; the others are as they were
pub record Replaced (F : ℕ → ℤ) (old now : List ℤ) (s n : ℕ) : Type 0 where
  pub size : length now ≡ ROW_LENGTH
  pub done : (x : ℕ) → x < n → get_or now (x + s) (pos 0) ≡ F x
  pub low : (x : ℕ) → x < s → get_or now x (pos 0) ≡ get_or old x (pos 0)
  pub high : (x : ℕ) → s + n ≤ x → get_or now x (pos 0) ≡ get_or old x (pos 0)

-- the x'th sum when a cell of a has entered and one of b has left
abbrev pub gathered : (a b : List ℤ) → GatherPlaces → List ℤ → ℕ → ℤ
gathered a b places sums x = get_or sums (x + places.sums) (pos 0) +ℤ (get_or a (x + places.enters) (pos 0) -ℤ get_or b (x + places.leaves) (pos 0))

-- the x'th sum when each edge has its new cell, and one is gone from it: the lower edge's cells enter, the upper edge's leave
abbrev pub slid : (a b c : List ℤ) → SlidePlaces → List ℤ → ℕ → ℤ
slid a b c places sums x =
    get_or sums (x + places.sums) (pos 0) +ℤ (get_or a (x + places.lower_new) (pos 0) -ℤ get_or b (x + places.lower_gone) (pos 0)) -ℤ (get_or b (x + places.upper_new) (pos 0) -ℤ get_or c (x + places.upper_gone) (pos 0))

-- the work row's number at column j when the slopes are added
abbrev pub slopes_added : (rising falling : List ℤ) → (p q : ℕ) → List ℤ → ℕ → ℤ
slopes_added rising falling p q work j = wrap (get_or work j (pos 0) +ℤ (get_or rising (j + p) (pos 0) +ℤ get_or falling (j + q) (pos 0)))

-- the same when a number of a is added too, and one of c subtracted
abbrev pub tips_added : (a c rising falling : List ℤ) → (p q : ℕ) → List ℤ → ℕ → ℤ
tips_added a c rising falling p q work j = wrap (get_or work j (pos 0) +ℤ ((get_or a (j + MARGIN) (pos 0) -ℤ get_or c (j + MARGIN) (pos 0)) +ℤ (get_or rising (j + p) (pos 0) +ℤ get_or falling (j + q) (pos 0))))

-- n places within two rows and the sums, and sums of at most m
pub record GatherRequires (m : ℕ) (a b : List ℤ) (n : ℕ) (places : GatherPlaces) (sums : List ℤ) : Type 0 where
  pub length_a : length a ≡ ROW_LENGTH
  pub length_b : length b ≡ ROW_LENGTH
  pub length_sums : length sums ≡ ROW_LENGTH
  pub room : n + places.sums ≤ ROW_LENGTH
  pub room_a : n + places.enters ≤ ROW_LENGTH
  pub room_b : n + places.leaves ≤ ROW_LENGTH
  pub within : AtMost m sums places.sums n

-- n places within three rows and the sums, and sums of at most m
pub record SlideRequires (m : ℕ) (a b c : List ℤ) (n : ℕ) (places : SlidePlaces) (sums : List ℤ) : Type 0 where
  pub length_a : length a ≡ ROW_LENGTH
  pub length_b : length b ≡ ROW_LENGTH
  pub length_c : length c ≡ ROW_LENGTH
  pub length_sums : length sums ≡ ROW_LENGTH
  pub room : n + places.sums ≤ ROW_LENGTH
  pub room_lower_new : n + places.lower_new ≤ ROW_LENGTH
  pub room_lower_gone : n + places.lower_gone ≤ ROW_LENGTH
  pub room_upper_new : n + places.upper_new ≤ ROW_LENGTH
  pub room_upper_gone : n + places.upper_gone ≤ ROW_LENGTH
  pub within : AtMost m sums places.sums n

-- slopes of at most m for every place of the work row
pub record FinishRequires (m : ℕ) (rising falling : List ℤ) (p q : ℕ) (work out : List ℤ) : Type 0 where
  pub length_rising : length rising ≡ ROW_LENGTH
  pub length_falling : length falling ≡ ROW_LENGTH
  pub length_out : length out ≡ length work
  pub room_rising : length work + p ≤ ROW_LENGTH
  pub room_falling : length work + q ≤ ROW_LENGTH
  pub within_rising : AtMost m rising p (length work)
  pub within_falling : AtMost m falling q (length work)

-- the same, and two rows
pub record TipsRequires (m : ℕ) (a c rising falling : List ℤ) (p q : ℕ) (work out : List ℤ) : Type 0 where
  pub slopes : FinishRequires m rising falling p q work out
  pub length_a : length a ≡ ROW_LENGTH
  pub length_c : length c ≡ ROW_LENGTH
  pub room : length work + MARGIN ≤ ROW_LENGTH
