-- The search in parts: the rows from a row on, and those after them.
-- Assumes nothing.
use mathlib.Core.Path.{◌≡◌, refl, ◌∙◌, ap}
use Prim.Native.Nat.{ℕ, zero, suc, ◌+◌, ◌-◌, ◌<◌}
use native.Mathlib.Omega.{arith}
use mathlib.Core.Bool.{Bool}
use mathlib.Core.Option.{Option, none, some}
use Rattle.spec_picture.specs.declared.Cell.{Cell}
use Rattle.spec_picture.specs.Frame.{cell}
use Rattle.spec_picture.specs.Picture.{Inputs}
use Rattle.spec_statistics.specs.SixSums.{six_sums}
use Rattle.spec_statistics.specs.Voice.{voice}
use Rattle.spec_smoothing.specs.Steady.{is_steady, find_column, or_else, find_cell, first_steady}

-- ---- the first of two searches that finds a cell
abbrev either : Option Cell → Option Cell → Option Cell
either none later = later
either (some c) later = some c

in-two-searches : (test : ℕ → ℕ → Bool) (columns i m k : ℕ) → find_cell test columns i (m + k) ≡ either (find_cell test columns i m) (find_cell test columns (i + m) k)
unfolding find_cell or_else
in-two-searches test columns i zero k =
    let a : 0 + k ≡ k = omega arith in
    let b : i + 0 ≡ i = omega arith in
    rw (a, b)
in-two-searches test columns i (suc m) k =
    let a : suc m + k ≡ suc (m + k) = omega arith in
    let b : suc i + m ≡ i + suc m = omega arith in
    ap (find_cell test columns i) a
    ∙ go (find_column (test i) 0 columns) (in-two-searches test columns (suc i) m k ∙ ap (λ (n : ℕ). either (find_cell test columns (suc i) m) (find_cell test columns n k)) b)
  where
    go : (o : Option ℕ) → find_cell test columns (suc i) (m + k) ≡ either (find_cell test columns (suc i) m) (find_cell test columns (i + suc m) k) →
        or_else i o (find_cell test columns (suc i) (m + k)) ≡ either (or_else i o (find_cell test columns (suc i) m)) (find_cell test columns (i + suc m) k)
    go (some j) e = refl
    go none e = e

row_of : Option Cell → ℕ
row_of none = 0
row_of (some c) = c.row

-- a cell that is found is in one of the rows
pub found-within : (test : ℕ → ℕ → Bool) (columns i n : ℕ) (c : Cell) → find_cell test columns i n ≡ some c → c.row < i + n
unfolding find_cell or_else row_of
found-within test columns i zero c e = cc
found-within test columns i (suc n) c e = go (find_column (test i) 0 columns) (found-within test columns (suc i) n c) e
  where
    go : (o : Option ℕ) → (find_cell test columns (suc i) n ≡ some c → c.row < suc i + n) → or_else i o (find_cell test columns (suc i) n) ≡ some c → c.row < i + suc n
    go (some j) h e =
        let row : i ≡ c.row = ap row_of e in
        omega (arith, row)
    go none h e = let below = h e in omega (arith, below)

-- ---- rows counted from row i on
abbrev moved : ℕ → Option Cell → Option Cell
moved i none = none
moved i (some c) = some (cell (i + c.row) c.column)

counted : (test : ℕ → ℕ → Bool) (columns i a m : ℕ) → find_cell test columns (i + a) m ≡ moved i (find_cell (λ r. test (i + r)) columns a m)
unfolding find_cell or_else
counted test columns i a zero = refl
counted test columns i a (suc m) =
    let b : suc (i + a) ≡ i + suc a = omega arith in
    go (find_column (test (i + a)) 0 columns) (ap (λ (n : ℕ). find_cell test columns n m) b ∙ counted test columns i (suc a) m)
  where
    go : (o : Option ℕ) → find_cell test columns (suc (i + a)) m ≡ moved i (find_cell (λ r. test (i + r)) columns (suc a) m) →
        or_else (i + a) o (find_cell test columns (suc (i + a)) m) ≡ moved i (or_else a o (find_cell (λ r. test (i + r)) columns (suc a) m))
    go (some j) e = refl
    go none e = e

-- ---- m rows from row i on
module _ (test : ℕ → ℕ → Bool) (columns i m n : ℕ) (rest : n - i ≡ m + (n - (i + m))) where
  both : find_cell test columns i (n - i) ≡ either (moved i (find_cell (λ r. test (i + r)) columns 0 m)) (find_cell test columns (i + m) (n - (i + m)))
  both =
      let b : i ≡ i + 0 = omega arith in
      ap (find_cell test columns i) rest ∙ in-two-searches test columns i m (n - (i + m))
      ∙ ap (λ (o : Option Cell). either o (find_cell test columns (i + m) (n - (i + m)))) (ap (λ (a : ℕ). find_cell test columns a m) b ∙ counted test columns i 0 m)

  pub rows-passed : find_cell (λ r. test (i + r)) columns 0 m ≡ none → find_cell test columns i (n - i) ≡ find_cell test columns (i + m) (n - (i + m))
  rows-passed e = both ∙ ap (λ (o : Option Cell). either (moved i o) (find_cell test columns (i + m) (n - (i + m)))) e

  pub rows-found : (c : Cell) → find_cell (λ r. test (i + r)) columns 0 m ≡ some c → find_cell test columns i (n - i) ≡ some (cell (i + c.row) c.column)
  rows-found c e = both ∙ ap (λ (o : Option Cell). either (moved i o) (find_cell test columns (i + m) (n - (i + m)))) e

-- ---- for the first steady cell
abbrev pub steady_at : Inputs → ℕ → ℕ → Bool
steady_at x i j = is_steady (voice (six_sums x i j))

-- the search from row k on
abbrev pub steady_from : Inputs → ℕ → Option Cell
steady_from x k = find_cell (steady_at x) x.source.frame.columns k (x.source.frame.rows - k)

pub whole-search : (x : Inputs) → steady_from x 0 ≡ first_steady x
unfolding first_steady
whole-search x =
    let m : x.source.frame.rows - 0 ≡ x.source.frame.rows = omega arith in
    rw m
