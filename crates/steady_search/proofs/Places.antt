-- The search from a place on: it passes a place that fails the test, and stops at one that holds it.
-- Assumes nothing.
use mathlib.Core.Path.{◌≡◌, refl, sym, ap, ap₂}
use mathlib.Core.Bool.{Bool, true, false}
use mathlib.Core.List.{List}
use mathlib.Core.Option.{Option, none, some}
use Prim.Native.Nat.{ℕ, zero, suc, ◌+◌, ◌-◌, ◌*◌, ◌≤◌, ◌<◌}
use native.Mathlib.Numerals.{add-one}
use native.Mathlib.Omega.{arith}
use lib.Ieee.{Float}
use lib.IntN.{ℤ}
use mir.Facts.{to_z-of_z}
use mir.Syntax.{w64}
use mir.Val.{SFits, to_z, of_z}
use Rattle.numbers.proofs.Writes.{at}
use Rattle.spec_picture.specs.Frame.{cell}
use Rattle.spec_statistics.specs.Voice.{voice}
use Rattle.spec_statistics.specs.Answers.{voice_of}
use Rattle.spec_statistics.specs.declared.Voice as declared
use Rattle.spec_statistics.specs.declared.Voice.TheVariants.{Empty, Steady, Grainy}
use Rattle.spec_smoothing.specs.Steady.{is_steady, find_column, or_else, find_cell}
use Rattle.steady_search.specs.SteadyCells.{first_sums, steady_in}

-- ---- one cell, by the voice that was answered
module _ (columns : ℕ) (n s a : List ℤ) (i j : ℕ) where
  abbrev place : ℕ
  place = i * columns + j

  pub as-answered : (v : declared.Voice) → SFits w64 (at n place) → SFits w64 (at s place) → SFits w64 (at a place) →
      voice_of v ≡ voice (first_sums (to_z w64 (of_z w64 (at n place))) (to_z w64 (of_z w64 (at s place))) (to_z w64 (of_z w64 (at a place)))) → steady_in columns n s a i j ≡ is_steady (voice_of v)
  as-answered v f g h e = ap is_steady (sym (simp (to_z-of_z, f, g, h) at e))

-- a voice that is passed over
pub other : (v : declared.Voice) → ((level : Float) → v ≡ Steady level → ⊥) → is_steady (voice_of v) ≡ false
other Empty h = refl
other (Steady level) h = absurd (h level refl)
other (Grainy grain) h = refl

-- ---- along a row
module _ (test : ℕ → Bool) (j n : ℕ) where
  pub column-passed : j < n → test j ≡ false → find_column test j (n - j) ≡ find_column test (j + 1) (n - (j + 1))
  unfolding find_column
  column-passed h e =
      let m : n - j ≡ suc (n - (j + 1)) = omega arith in
      rw (m, find_column, e, add-one j)

  pub column-found : j < n → test j ≡ true → find_column test j (n - j) ≡ some j
  unfolding find_column
  column-found h e =
      let m : n - j ≡ suc (n - (j + 1)) = omega arith in
      rw (m, find_column, e)

  pub no-column : n ≤ j → find_column test j (n - j) ≡ none
  unfolding find_column
  no-column h =
      let m : n - j ≡ 0 = omega arith in
      rw m

-- ---- row by row
module _ (test : ℕ → ℕ → Bool) (columns i n : ℕ) where
  pub row-passed : i < n → find_column (test i) 0 columns ≡ none → find_cell test columns i (n - i) ≡ find_cell test columns (i + 1) (n - (i + 1))
  unfolding find_cell or_else
  row-passed h e =
      let m : n - i ≡ suc (n - (i + 1)) = omega arith in
      rw (m, find_cell, e, add-one i)

  pub row-found : (j : ℕ) → i < n → find_column (test i) 0 columns ≡ some j → find_cell test columns i (n - i) ≡ some (cell i j)
  unfolding find_cell or_else
  row-found j h e =
      let m : n - i ≡ suc (n - (i + 1)) = omega arith in
      rw (m, find_cell, e)

  pub no_row : n ≤ i → find_cell test columns i (n - i) ≡ none
  unfolding find_cell
  no_row h =
      let m : n - i ≡ 0 = omega arith in
      rw m

-- ---- two tests that agree on the cells
same-columns : (t u : ℕ → Bool) (j n : ℕ) → ((k : ℕ) → k < j + n → t k ≡ u k) → find_column t j n ≡ find_column u j n
unfolding find_column
same-columns t u j zero same = refl
same-columns t u j (suc n) same =
    ap₂ (λ (b : Bool) (later : Option ℕ). elim b [ true ↦ some j | false ↦ later ]) (same j (omega arith)) (same-columns t u (suc j) n (λ k h. same k (omega (arith, h))))

pub same-cells : (t u : ℕ → ℕ → Bool) (columns i n : ℕ) → ((k j : ℕ) → k < i + n → j < columns → t k j ≡ u k j) → find_cell t columns i n ≡ find_cell u columns i n
unfolding find_cell
same-cells t u columns i zero same = refl
same-cells t u columns i (suc n) same =
    ap₂ (or_else i) (same-columns (t i) (u i) 0 columns (λ j h. same i j (omega arith) (omega (arith, h)))) (same-cells t u columns (suc i) n (λ k j h. same k j (omega (arith, h))))
