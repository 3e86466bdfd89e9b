-- The means of a block of rows from its N and S.
-- Assumes nothing.
use mathlib.Core.Path.{◌≡◌, sym, ◌∙◌, ap, ap₂, subst}
use Prim.Native.Nat.{ℕ, ◌+◌, ◌*◌, ◌/◌, ◌%◌, ◌≤◌, ◌<◌}
use native.Mathlib.Nat.{add-mul, mul-le-mul_right}
use native.Mathlib.Omega.{arith}
use mathlib.Core.List.{List}
use lib.ListN.{length}
use lib.IntN.{ℤ, pos, nat_abs}
use Rattle.numbers.specs.Round.{nearest}
use Rattle.numbers.proofs.Grids.{get_d_tabulate, place_inside}
use Rattle.numbers.proofs.Writes.{at}
use Rattle.spec_picture.specs.declared.Frame.{Frame}
use Rattle.spec_picture.specs.declared.Window.{Window}
use Rattle.spec_picture.specs.Frame.{cells}
use Rattle.spec_picture.specs.Picture.{Inputs}
use Rattle.spec_picture.specs.Direct.{direct_sum}
use Rattle.spec_picture.proofs.Found.{Checked}
use Rattle.spec_statistics.specs.SixSums.{on_plane, six_sums}
use Rattle.spec_statistics.specs.Moments.{mean}
use Rattle.spec_statistics.proofs.Possible.{sums-fair, count-bound}
use Rattle.spec_smoothing.specs.Smoothing.{alone}
use Rattle.row_session.specs.Blocks.{RowSums}
use Rattle.smoothing.proofs.BlockLines.{cell-of}
use Rattle.smoothing.specs.Means.{LevelMean, MeansRequires, means_of}
use Rattle.spec_smoothing.proofs.Means.{counted, mean-level}

-- m rows from row i on end within the picture
pub block-end : (x : Inputs) (i m : ℕ) → i + m ≤ x.source.frame.rows → i * x.source.frame.columns + m * x.source.frame.columns ≤ cells x.source.frame
block-end x i m within = omega (arith, add-mul i m x.source.frame.columns, mul-le-mul_right x.source.frame.columns within)

-- a cell of a picture alone has a count, and its mean is a level
alone-mean : (z : Frame) (f : List ℤ) (w : Window) → Checked (alone z f w) → (i j : ℕ) → i < z.rows → j < z.columns →
    LevelMean (direct_sum (on_plane (alone z f w) 0) i j) (direct_sum (on_plane (alone z f w) 1) i j)
unfolding mean
alone-mean z f w c i j below h =
    let x : Inputs = alone z f w in
    record {
      count = record { some = counted z f w i j below h; few = count-bound x c.levels_f c.levels_g i j c.window c.fitting h };
      small = (sums-fair x c.levels_f c.levels_g i j).first;
      level = mean-level z f w c.levels_f i j below h;
    }

-- the cells of m rows from row i on of a picture alone, at the fronts of n and s
module _ (x : Inputs) (c : Checked x) (a : x ≡ alone x.source.frame x.source.f x.window) (i m : ℕ) (within : i + m ≤ x.source.frame.rows)
    (n s out : List ℤ) (n-is : RowSums (on_plane x 0) i m n) (s-is : RowSums (on_plane x 1) i m s)
    (room : length out ≡ m * x.source.frame.columns) where
  abbrev z : Frame
  z = x.source.frame

  cell-mean : (r j : ℕ) → r < m → j < z.columns → LevelMean (direct_sum (on_plane x 0) (i + r) j) (direct_sum (on_plane x 1) (i + r) j)
  cell-mean r j h =
      subst (λ (y : Inputs). j < z.columns → LevelMean (direct_sum (on_plane y 0) (i + r) j) (direct_sum (on_plane y 1) (i + r) j)) (sym a)
      (alone-mean z x.source.f x.window (subst Checked a c) (i + r) j (omega (arith, h, within)))

  pub block-required : m * z.columns ≤ length n → m * z.columns ≤ length s → MeansRequires n s out
  block-required room_n room_s = record {
    room_n = omega arith;
    room_s = omega arith;
    each = λ k h.
        let p = cell-of m z.columns k (omega (arith, h, room)) in
        let r = k / z.columns in
        let j = k % z.columns in
        subst (λ (k : ℕ). LevelMean (at n k) (at s k)) p.place (rw (n-is r j p.row p.column, s-is r j p.row p.column) (cell-mean r j p.row p.column));
  }

  pub block-mean : (part : List ℤ) → part ≡ means_of n s out → (r j : ℕ) → r < m → j < z.columns → at part (r * z.columns + j) ≡ mean (six_sums x (i + r) j)
  unfolding means_of mean
  block-mean part e r j h l =
      ap (λ (l : List ℤ). at l (r * z.columns + j)) e
      ∙ get_d_tabulate (length out) (r * z.columns + j) (λ k. nearest (at s k) (nat_abs (at n k))) (pos 0) (omega (arith, room, place_inside h l))
      ∙ ap₂ (λ (s n : ℤ). nearest s (nat_abs n)) (s-is r j h l) (n-is r j h l)
