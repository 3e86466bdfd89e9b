-- What the loops of the slopes require of their callers: places within their rows, and slopes that are not large.
-- Assumes nothing.
use mathlib.Core.Path.{◌≡◌, sym, ◌∙◌}
use Prim.Native.Nat.{ℕ, ◌+◌, ◌-◌, ◌*◌, ◌≤◌, ◌<◌}
use native.Mathlib.Omega.{arith}
use native.Mathlib.Nat.{mul-le-mul_right}
use mathlib.Core.List.{List}
use lib.ListN.{length}
use lib.IntN.{ℤ, nat_abs}
use Rattle.spec_picture.specs.Picture.{Source, Levels, plane_at}
use Rattle.spec_picture.specs.declared.checked.CheckedSource.{CheckedSource}
use Rattle.spec_picture.specs.Checked.{checked_source}
use Rattle.spec_picture.specs.Plane.{plane_number}
use Rattle.spec_picture.proofs.Found.{limits}
use Rattle.slope_loops.specs.declared.loops.GatherPlaces.{GatherPlaces}
use Rattle.slope_loops.specs.declared.loops.SlidePlaces.{SlidePlaces}
use Rattle.slope_loops.specs.Slopes.{padded}
use Rattle.slope_loops.specs.Loops.{Holds, AtMost, GatherRequires, SlideRequires, FinishRequires, TipsRequires}
use Rattle.slope_loops.proofs.Moves.{padded-bound}
use Rattle.slope_rows.specs.Requires.{FlatEdgeRequires}
use Rattle.slope_rows.specs.declared.kept_slopes.SlantedInputs.{SlantedInputs}
use Rattle.slope_rows.specs.Edges.{Slopes, KeptSlopes, HoldsRow, side}
use Rattle.slope_rows.specs.Places.{RisingCells, FallingCells, RisingPlaces, FallingPlaces}
use Rattle.slope_rows.proofs.Kept.{within-row, within-rises, within-falls}
use Rattle.slope_rows.proofs.Windows.{apart-in}
use Rattle.slope_loops.specs.declared.padding.TheConstants.{ABOVE, MARGIN, ROW_LENGTH}
use Rattle.slope_rows.specs.declared.places.TheConstants.{FALLING_START, RISING_START}

module _ (slanted : SlantedInputs) (i : ℕ) (below : i < slanted.inputs.source.frame.rows) where
  abbrev given : CheckedSource
  given = slanted.inputs.source

  abbrev h : ℕ
  h = slanted.height

  abbrev w : ℕ
  w = slanted.width

  abbrev beside : ℕ
  beside = slanted.beside

  abbrev columns : ℕ
  columns = given.frame.columns

  abbrev P : ℕ → ℕ → ℤ
  P = plane_at (checked_source given)

  abbrev Q : ℕ → ℕ → ℤ
  Q = padded given.frame P

  -- how far the rows reach beside the picture's columns, and n places of them from place p on
  abbrev reach : ℕ
  reach = side slanted

  abbrev Reached : (p n : ℕ) → Type 0
  Reached p n = (MARGIN ≤ p + reach) × (p + n ≤ MARGIN + columns + reach)

  pub row-limits : (i ≤ 255) × (columns ≤ 1024) × (h ≤ w) × (w ≤ 127) × (beside ≤ w)
  row-limits =
      let z = limits given in
      omega (arith, z.few_rows, z.few_columns, below, slanted.fits.low, slanted.fits.narrow, slanted.kept.few)

  pub flat-required : {work out : List ℤ} → length work ≡ columns → length out ≡ columns → FlatEdgeRequires given.frame i h (w - h) work out
  flat-required l k = record {
    apart = λ t. omega (arith, apart-in slanted t);
    row = record { row = omega (arith, row-limits); distance = omega (arith, row-limits); room = l };
    room = k;
  }

  -- a plane whose values are at most B, and slopes of at most M
  module _ (holds : ℕ → Type 0) (B M : ℕ) (bound : (x : Source) → holds x.plane → Levels x.f → Levels x.g → (m n : ℕ) → nat_abs (plane_at x m n) ≤ B)
      (plane : holds (plane_number given.plane)) (room : 127 * (2 * B) + 4 ≤ M) where
    small : (y x : ℕ) → nat_abs (Q y x) ≤ B
    small = padded-bound given.frame P B (bound (checked_source given) plane given.levels_f given.levels_g)

    row-within : {row : List ℤ} (y p n : ℕ) → Holds given.frame reach (Q y) row → Reached p n → AtMost B row p n
    row-within y p n u r = within-row Q B small given.frame reach _ y B p n (omega arith) u r.0 r.1

    -- slopes of n cells
    module _ (more n y m : ℕ) {rises falls : List ℤ} (few : n ≤ h) (l : Slopes Q columns more w n y m rises falls) where
      bounded : n * (2 * B) ≤ M
      bounded =
          let most : n ≤ 127 = omega (arith, row-limits) in
          omega (arith, mul-le-mul_right (2 * B) most, room)

      rises-within : (p count : ℕ) → RISING_START + m ≤ p → p + count ≤ RISING_START + m + columns + more → AtMost M rises p count
      rises-within p count = within-rises Q B small columns more w n y m rises falls l M p count bounded

      falls-within : (p count : ℕ) → FALLING_START ≤ p + m + more → p + count + m ≤ FALLING_START + columns → AtMost M falls p count
      falls-within p count = within-falls Q B small columns more w n y m rises falls l M p count bounded

    -- what a further cell of each slope requires
    module _ {t : ℕ} {a b rises falls : List ℤ} (inside : t < h) (l : KeptSlopes slanted beside t (ABOVE + i) 0 rises falls)
        (lower : HoldsRow slanted (ABOVE + i + 1 + t) a) (upper : HoldsRow slanted (ABOVE + i - t) b) where
      gather-required : (places : GatherPlaces) {sums : List ℤ} → length sums ≡ ROW_LENGTH → columns + beside + places.sums ≤ ROW_LENGTH → Reached places.enters (columns + beside) → Reached places.leaves (columns + beside) → AtMost M sums places.sums (columns + beside) →
          GatherRequires M a b (columns + beside) places sums × AtMost B a places.enters (columns + beside) × AtMost B b places.leaves (columns + beside)
      gather-required places length_sums room enters leaves within = (
        record {
          length_a = lower.size;
          length_b = upper.size;
          length_sums = length_sums;
          room = room;
          room_a = omega (arith, row-limits, enters);
          room_b = omega (arith, row-limits, leaves);
          within = within;
        },
        row-within (ABOVE + i + 1 + t) _ _ lower enters,
        row-within (ABOVE + i - t) _ _ upper leaves,
      )

      pub rises-gather : (places : GatherPlaces) → RisingCells MARGIN (w - t) places → GatherRequires M a b (columns + beside) places rises × AtMost B a places.enters (columns + beside) × AtMost B b places.leaves (columns + beside)
      rises-gather places r =
          gather-required places l.length_rises (omega (arith, row-limits, r.sums)) (omega (arith, r.enters), omega (arith, r.enters)) (omega (arith, r.leaves), omega (arith, r.leaves))
          (rises-within beside t (ABOVE + i) 0 (omega arith) l places.sums (columns + beside) (omega (arith, r.sums)) (omega (arith, r.sums)))

      pub falls-gather : (places : GatherPlaces) → FallingCells (MARGIN - beside) (w - t) places → GatherRequires M a b (columns + beside) places falls × AtMost B a places.enters (columns + beside) × AtMost B b places.leaves (columns + beside)
      falls-gather places r =
          gather-required places l.length_falls (omega (arith, row-limits, r.sums)) (omega (arith, row-limits, r.enters), omega (arith, row-limits, r.enters)) (omega (arith, row-limits, r.leaves), omega (arith, row-limits, r.leaves))
          (falls-within beside t (ABOVE + i) 0 (omega arith) l places.sums (columns + beside) (omega (arith, row-limits, r.sums)) (omega (arith, row-limits, r.sums)))

    -- the slopes of row i, in the m'th row of a call
    module _ {m : ℕ} {rises falls : List ℤ} (turn : m ≤ 254) where
      -- what the slopes of the next row require, when one more of each kind has come in
      module _ (l : KeptSlopes slanted (beside + 1) h (ABOVE + i) m rises falls)
          {a b c : List ℤ} (lower : HoldsRow slanted (ABOVE + i + 1 + h) a) (middle : HoldsRow slanted (ABOVE + i + 1) b) (upper : HoldsRow slanted (ABOVE + i + 1 - h) c) where
        slide-required : (places : SlidePlaces) {sums : List ℤ} → length sums ≡ ROW_LENGTH → columns + beside + places.sums ≤ ROW_LENGTH →
            Reached places.lower_new (columns + beside) → Reached places.lower_gone (columns + beside) → Reached places.upper_new (columns + beside) → Reached places.upper_gone (columns + beside) → AtMost M sums places.sums (columns + beside) →
            SlideRequires M a b c (columns + beside) places sums
            × AtMost B a places.lower_new (columns + beside) × AtMost B b places.lower_gone (columns + beside) × AtMost B b places.upper_new (columns + beside) × AtMost B c places.upper_gone (columns + beside)
        slide-required places length_sums room lower_new lower_gone upper_new upper_gone within = (
          record {
            length_a = lower.size;
            length_b = middle.size;
            length_c = upper.size;
            length_sums = length_sums;
            room = room;
            room_lower_new = omega (arith, row-limits, lower_new);
            room_lower_gone = omega (arith, row-limits, lower_gone);
            room_upper_new = omega (arith, row-limits, upper_new);
            room_upper_gone = omega (arith, row-limits, upper_gone);
            within = within;
          },
          row-within (ABOVE + i + 1 + h) _ _ lower lower_new,
          row-within (ABOVE + i + 1) _ _ middle lower_gone,
          row-within (ABOVE + i + 1) _ _ middle upper_new,
          row-within (ABOVE + i + 1 - h) _ _ upper upper_gone,
        )

        pub rises-slide : (places : SlidePlaces) → RisingPlaces MARGIN (m + 1) w (w - h) places → SlideRequires M a b c (columns + beside) places rises
            × AtMost B a places.lower_new (columns + beside) × AtMost B b places.lower_gone (columns + beside) × AtMost B b places.upper_new (columns + beside) × AtMost B c places.upper_gone (columns + beside)
        rises-slide places r =
            slide-required places l.length_rises (omega (arith, row-limits, r.sums)) (omega (arith, r.lower_new), omega (arith, r.lower_new)) (omega (arith, r.lower_gone), omega (arith, r.lower_gone))
            (omega (arith, r.upper_new), omega (arith, r.upper_new)) (omega (arith, r.upper_gone), omega (arith, r.upper_gone))
            (rises-within (beside + 1) h (ABOVE + i) m (omega arith) l places.sums (columns + beside) (omega (arith, r.sums)) (omega (arith, r.sums)))

        pub falls-slide : (places : SlidePlaces) → FallingPlaces (MARGIN - beside) (m + 1) w (w - h) places → SlideRequires M a b c (columns + beside) places falls
            × AtMost B a places.lower_new (columns + beside) × AtMost B b places.lower_gone (columns + beside) × AtMost B b places.upper_new (columns + beside) × AtMost B c places.upper_gone (columns + beside)
        falls-slide places r =
            slide-required places l.length_falls (omega (arith, row-limits, r.sums)) (omega (arith, row-limits, r.lower_new), omega (arith, row-limits, r.lower_new)) (omega (arith, row-limits, r.lower_gone), omega (arith, row-limits, r.lower_gone))
            (omega (arith, row-limits, r.upper_new), omega (arith, row-limits, r.upper_new)) (omega (arith, row-limits, r.upper_gone), omega (arith, row-limits, r.upper_gone))
            (falls-within (beside + 1) h (ABOVE + i) m (omega arith) l places.sums (columns + beside) (omega (arith, row-limits, r.sums)) (omega (arith, row-limits, r.sums)))

      -- what the work row requires
      module _ (l : KeptSlopes slanted beside h (ABOVE + i) m rises falls) {work out : List ℤ} (lw : length work ≡ columns) (lo : length out ≡ columns) where
        pub finish-required : FinishRequires M rises falls (RISING_START + m) (FALLING_START - m) work out
        finish-required = record {
          length_rising = l.length_rises;
          length_falling = l.length_falls;
          length_out = lo ∙ sym lw;
          room_rising = omega (arith, lw, row-limits);
          room_falling = omega (arith, lw, row-limits);
          within_rising = rises-within beside h (ABOVE + i) m (omega arith) l (RISING_START + m) (length work) (omega arith) (omega (arith, lw));
          within_falling = falls-within beside h (ABOVE + i) m (omega arith) l (FALLING_START - m) (length work) (omega arith) (omega (arith, lw));
        }

        pub tips-required : {a c : List ℤ} → HoldsRow slanted (ABOVE + i + 1 + h) a → HoldsRow slanted (ABOVE + i - h) c →
            TipsRequires M a c rises falls (RISING_START + m) (FALLING_START - m) work out × AtMost B a MARGIN (length work) × AtMost B c MARGIN (length work)
        tips-required entering leaving = (
          record { slopes = finish-required; length_a = entering.size; length_c = leaving.size; room = omega (arith, lw, row-limits) },
          row-within (ABOVE + i + 1 + h) _ _ entering (omega arith, omega (arith, lw)),
          row-within (ABOVE + i - h) _ _ leaving (omega arith, omega (arith, lw)),
        )
