-- The cells below and above a row, of a plane that is 0 past the last row.
-- Assumes nothing.
use mathlib.Core.Path.{◌≡◌, sym, ◌∙◌}
use Prim.Native.Nat.{ℕ, ◌+◌, ◌-◌, ◌≤◌, ◌<◌}
use native.Mathlib.Omega.{arith}
use native.Mathlib.Decide.{dec_lt}
use lib.Dec.{leb, ltb, leb→le, ltb→lt, le→leb, lt→ltb}
use lib.IntN.{ℤ, pos}
use Rattle.numbers.specs.Sum.{pick}
use Rattle.numbers.proofs.Sums.{pick_yes, pick_no}
use Rattle.spec_picture.specs.declared.Frame.{Frame}
use Rattle.spec_rows.specs.Rows.{cell_below, cell_above}

module _ (z : Frame) (P : ℕ → ℕ → ℤ) where
  -- no row is d rows above one of the first d
  pub none_above : (i d n : ℕ) → i < d → cell_above z P i d n ≡ pos 0
  unfolding cell_above
  none_above i d n h = pick_no (leb d i) (pick (ltb (i - d) z.rows) (P (i - d) n)) (λ t. omega (arith, leb→le d i t))

  module _ (past : (m n : ℕ) → z.rows ≤ m → P m n ≡ pos 0) where
    -- a row past the last is 0 by itself
    picked : (m n : ℕ) → pick (ltb m z.rows) (P m n) ≡ P m n
    picked m n = go (dec_lt m z.rows)
      where
        go : Dec (m < z.rows) → pick (ltb m z.rows) (P m n) ≡ P m n
        go (yes h) = pick_yes (ltb m z.rows) (P m n) (lt→ltb m z.rows h)
        go (no h) = pick_no (ltb m z.rows) (P m n) (λ t. omega (arith, ltb→lt m z.rows t)) ∙ sym (past m n (omega arith))

    pub cell_below_lem : (i d n : ℕ) → cell_below z P i d n ≡ P (i + d) n
    unfolding cell_below
    cell_below_lem i d n = picked (i + d) n

    pub cell-above : (i d n : ℕ) → d ≤ i → cell_above z P i d n ≡ P (i - d) n
    unfolding cell_above
    cell-above i d n h = pick_yes (leb d i) (pick (ltb (i - d) z.rows) (P (i - d) n)) (le→leb d i h) ∙ picked (i - d) n
