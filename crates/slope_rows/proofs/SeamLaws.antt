-- The slopes that come in at the seam: where columns wrap, those of the column a whole row nearer; where they clip, none.
-- Assumes nothing.
use mathlib.Core.Path.{◌≡◌, sym, ◌∙◌, ap}
use Prim.Native.Nat.{ℕ, ◌+◌, ◌-◌, ◌≤◌, ◌<◌}
use native.Mathlib.Omega.{arith}
use native.Mathlib.Decide.{ℕ_discrete}
use mathlib.Core.Bool.{not}
use mathlib.Core.List.{List}
use lib.Dec.{T}
use lib.ListN.{set, length-set}
use lib.Seq.{get_or-set_same, get_or-set_other}
use lib.IntN.{ℤ, pos}
use Rattle.numbers.proofs.Writes.{at}
use Rattle.spec_picture.specs.declared.Frame.{Frame}
use Rattle.spec_picture.specs.Frame.{Apart}
use Rattle.slope_loops.specs.Slopes.{padded, rising, falling}
use Rattle.slope_loops.proofs.Moves.{rising-right, falling-left, rising-round, falling-round}
use Rattle.slope_rows.specs.Edges.{Slopes}
use Rattle.slope_rows.specs.Fits.{KeptBeside}
use Rattle.slope_loops.specs.declared.padding.TheConstants.{MARGIN}
use Rattle.slope_rows.specs.declared.places.TheConstants.{FALLING_START, RISING_START, SLOPE_SHIFT}

-- one more slope of each kind is written
module _ (Q : ℕ → ℕ → ℤ) (columns beside w n y m : ℕ) (narrow : beside ≤ 127) (few : columns ≤ 1024) (turn : m ≤ 254) {rises falls : List ℤ} (l : Slopes Q columns beside w n y m rises falls) (u v : ℤ)
    (ru : u ≡ rising Q w n y (MARGIN + beside + columns)) (fv : v ≡ falling Q w n y (MARGIN - beside - 1)) where
  abbrev last : ℕ
  last = RISING_START + m + beside + columns

  abbrev first : ℕ
  first = FALLING_START - m - beside - 1

  rises-at : (s : ℕ) → RISING_START + m ≤ s → s < RISING_START + m + columns + (beside + 1) → Dec (s ≡ last) → at (set rises last u) s ≡ rising Q w n y (s + SLOPE_SHIFT - m)
  rises-at s h k (yes e) =
      let place : last + SLOPE_SHIFT - m ≡ MARGIN + beside + columns = omega arith in
      rw (e, place) (get_or-set_same rises last u (pos 0) (omega (arith, l.length_rises)) ∙ ru)
  rises-at s h k (no d) = get_or-set_other rises last s u (pos 0) d ∙ l.rising_at s h (omega arith)

  falls-at : (s : ℕ) → FALLING_START ≤ s + m + (beside + 1) → s + m < FALLING_START + columns → Dec (s ≡ first) → at (set falls first v) s ≡ falling Q w n y (s + m - SLOPE_SHIFT)
  falls-at s h k (yes e) =
      let place : first + m - SLOPE_SHIFT ≡ MARGIN - beside - 1 = omega arith in
      rw (e, place) (get_or-set_same falls first v (pos 0) (omega (arith, l.length_falls)) ∙ fv)
  falls-at s h k (no d) = get_or-set_other falls first s v (pos 0) d ∙ l.falling_at s (omega arith) k

  pub slopes-more : Slopes Q columns (beside + 1) w n y m (set rises last u) (set falls first v)
  slopes-more = record {
    length_rises = length-set rises last u ∙ l.length_rises;
    length_falls = length-set falls first v ∙ l.length_falls;
    rising_at = λ s h k. rises-at s h k (ℕ_discrete s last);
    falling_at = λ s h k. falls-at s h k (ℕ_discrete s first);
  }

module _ (z : Frame) (P : ℕ → ℕ → ℤ) (zero-beside : (m n : ℕ) → z.columns ≤ n → P m n ≡ pos 0) (w beside n y : ℕ) (narrow : w ≤ 127) (low : n ≤ w) (kept : KeptBeside z w beside) where
  -- where columns clip
  pub rising-none : T (not z.columns_wrap) → (u : ℤ) → u ≡ pos 0 → u ≡ rising (padded z P) w n y (MARGIN + beside + z.columns)
  rising-none clips u e = e ∙ sym (rising-right z P w n y (MARGIN + beside + z.columns) low clips zero-beside (omega (arith, kept.clipped clips)))

  pub falling-none : T (not z.columns_wrap) → (v : ℤ) → v ≡ pos 0 → v ≡ falling (padded z P) w n y (MARGIN - beside - 1)
  falling-none clips v e = e ∙ sym (falling-left z P w n y (MARGIN - beside - 1) low clips (omega (arith, kept.clipped clips)))

  -- where they wrap
  module _ (wraps : T z.columns_wrap) (apart : Apart z w) (m : ℕ) (turn : m ≤ 254) {rises falls : List ℤ} (l : Slopes (padded z P) z.columns beside w n y m rises falls) where
    pub rising-nearer : (u : ℤ) → u ≡ at rises (RISING_START + m + beside) → u ≡ rising (padded z P) w n y (MARGIN + beside + z.columns)
    rising-nearer u e =
        let place : RISING_START + m + beside + SLOPE_SHIFT - m ≡ MARGIN + beside = omega arith in
        e ∙ l.rising_at (RISING_START + m + beside) (omega arith) (omega (arith, apart wraps, kept.few)) ∙ ap (rising (padded z P) w n y) place
        ∙ sym (rising-round z P w n y (MARGIN + beside) low wraps (omega (arith, kept.few)) (omega (arith, apart wraps, kept.few)) (omega arith))

    pub falling-nearer : (v : ℤ) → v ≡ at falls (FALLING_START - m - beside - 1 + z.columns) → v ≡ falling (padded z P) w n y (MARGIN - beside - 1)
    falling-nearer v e =
        let place : FALLING_START - m - beside - 1 + z.columns + m - SLOPE_SHIFT ≡ MARGIN - beside - 1 + z.columns = omega arith in
        e ∙ l.falling_at (FALLING_START - m - beside - 1 + z.columns) (omega (arith, apart wraps, kept.few)) (omega arith) ∙ ap (falling (padded z P) w n y) place
        ∙ falling-round z P w n y (MARGIN - beside - 1) low wraps (omega (arith, apart wraps, kept.few)) (omega (arith, kept.few)) (omega (arith, kept.few))
