-- The search's cell passes the test and none before it does; where there is none, no cell passes. So it is with the first steady cell.
-- Assumes nothing.
use mathlib.Core.Path.{◌≡◌, refl}
use Prim.Native.Nat.{ℕ, zero, suc, ◌+◌, ◌≤◌, ◌<◌}
use native.Mathlib.Omega.{arith}
use native.Mathlib.Decide.{dec_lt}
use mathlib.Core.Bool.{Bool, true, false, not, ◌&&◌}
use mathlib.Core.Option.{Option, none, some}
use mathlib.Core.List.{List, [], ◌∷◌}
use lib.IntN.{ℤ, pos}
use Rattle.spec_picture.specs.Refusal.{numbers_of}
use Rattle.spec_picture.specs.declared.Cell.{Cell}
use Rattle.spec_picture.specs.declared.Shift.{Shift}
use Rattle.spec_picture.specs.declared.Frame.{Frame}
use Rattle.spec_picture.specs.declared.Window.{Window}
use Rattle.spec_picture.specs.Picture.{Inputs}
use Rattle.spec_statistics.specs.declared.Sums.{Sums}
use Rattle.spec_statistics.specs.SixSums.{six_sums, Vf, no_cell, is_zero}
use Rattle.spec_statistics.specs.Moments.{mean, deviation}
use Rattle.spec_statistics.specs.Voice.{empty, steady, grainy, over32768, voice}
use Rattle.spec_smoothing.specs.Steady.{is_steady, find_column, or_else, find_cell, first_steady, steady_checks}

-- the first passing column of those from j on
pub data FoundColumn (test : ℕ → Bool) (j n : ℕ) : Option ℕ → Type 0 where
  at : (c : ℕ) → j ≤ c → c < j + n → test c ≡ true → ((k : ℕ) → j ≤ k → k < c → test k ≡ false) → FoundColumn test j n (some c)
  nowhere : ((k : ℕ) → j ≤ k → k < j + n → test k ≡ false) → FoundColumn test j n none

pub find-column : (test : ℕ → Bool) (j n : ℕ) → FoundColumn test j n (find_column test j n)
unfolding find_column
find-column test j zero = nowhere (λ k l m. absurd (omega arith))
find-column test j (suc n) = go (test j) refl (find_column test (suc j) n) (find-column test (suc j) n)
  where
    go : (b : Bool) → test j ≡ b → (r : Option ℕ) → FoundColumn test (suc j) n r → FoundColumn test j (suc n) (elim b [ true ↦ some j | false ↦ r ])
    go true e r f = at j (omega arith) (omega arith) e (λ k l m. absurd (omega arith))
    go false e r (at c l m t h) = at c (omega arith) (omega arith) t
        (λ k o p. later k o p (dec_lt j k))
      where
        later : (k : ℕ) → j ≤ k → k < c → Dec (j < k) → test k ≡ false
        later k o p (yes q) = h k q p
        later k o p (no q) =
            let s : k ≡ j = omega arith in
            rw s e
    go false e r (nowhere h) = nowhere (λ k l m. later k l m (dec_lt j k))
      where
        later : (k : ℕ) → j ≤ k → k < j + suc n → Dec (j < k) → test k ≡ false
        later k l m (yes q) = h k q (omega arith)
        later k l m (no q) =
            let s : k ≡ j = omega arith in
            rw s e

-- the first passing cell in row order
pub data FoundCell (test : ℕ → ℕ → Bool) (columns i n : ℕ) : Option Cell → Type 0 where
  at : (c : Cell) → i ≤ c.row → c.row < i + n → c.column < columns → test c.row c.column ≡ true →
      ((m k : ℕ) → i ≤ m → m < c.row → k < columns → test m k ≡ false) → ((k : ℕ) → k < c.column → test c.row k ≡ false) → FoundCell test columns i n (some c)
  nowhere : ((m k : ℕ) → i ≤ m → m < i + n → k < columns → test m k ≡ false) → FoundCell test columns i n none

pub find-cell : (test : ℕ → ℕ → Bool) (columns i n : ℕ) → FoundCell test columns i n (find_cell test columns i n)
unfolding find_cell or_else
find-cell test columns i zero = nowhere (λ m k l o p. absurd (omega arith))
find-cell test columns i (suc n) = go (find_column (test i) 0 columns) (find-column (test i) 0 columns) (find_cell test columns (suc i) n) (find-cell test columns (suc i) n)
  where
    go : (c : Option ℕ) → FoundColumn (test i) 0 columns c → (r : Option Cell) → FoundCell test columns (suc i) n r → FoundCell test columns i (suc n) (or_else i c r)
    go c0 (at c l m t h) r f = at (record { row = i; column = c }) (omega arith) (omega arith) (omega arith) t (λ m k o p q. absurd (omega arith)) (λ k o. h k (omega arith) o)
    go c0 (nowhere h) r (at c l m o t early row) = at c (omega arith) (omega arith) o t (λ m k p q s. before m k p q s (dec_lt i m)) row
      where
        before : (m k : ℕ) → i ≤ m → m < c.row → k < columns → Dec (i < m) → test m k ≡ false
        before m k p q s (yes u) = early m k u q s
        before m k p q s (no u) =
            let e : m ≡ i = omega arith in
            rw e (h k (omega arith) (omega arith))
    go c0 (nowhere h) r (nowhere g) = nowhere (λ m k p q s. before m k p q s (dec_lt i m))
      where
        before : (m k : ℕ) → i ≤ m → m < i + suc n → k < columns → Dec (i < m) → test m k ≡ false
        before m k p q s (yes u) = g m k u (omega arith) s
        before m k p q s (no u) =
            let e : m ≡ i = omega arith in
            rw e (h k (omega arith) (omega arith))

-- a cell is steady where it has a count and Vf = 0: "a cell that answers Empty or Grainy is passed over"
pub steady-when : (z : Sums) → is_steady (voice z) ≡ (not (no_cell z) && is_zero (Vf z))
unfolding voice
steady-when z = go (no_cell z) (is_zero (Vf z))
  where
    go : (a b : Bool) → is_steady (elim a [ true ↦ empty | false ↦ elim b [ true ↦ steady (over32768 (mean z)) | false ↦ grainy (over32768 (mean z)) (over32768 (pos (deviation z))) ] ]) ≡ (not a && b)
    go true b = refl
    go false true = refl
    go false false = refl

-- "the first cell in row order whose voice answer is Steady, or None"
pub steady-found : (x : Inputs) → FoundCell (λ i j. is_steady (voice (six_sums x i j))) x.source.frame.columns 0 x.source.frame.rows (first_steady x)
unfolding first_steady
steady-found x = find-cell (λ i j. is_steady (voice (six_sums x i j))) x.source.frame.columns 0 x.source.frame.rows

-- "Checks run in number order, each where the call has that input"
pub steady-order : (z : Frame) (f g : List ℤ) (w : Window) (d : Shift) → numbers_of (steady_checks z f g w d) ≡ 1 ∷ 2 ∷ 2 ∷ 3 ∷ 4 ∷ 11 ∷ []
unfolding numbers_of
steady-order z f g w d = refl
