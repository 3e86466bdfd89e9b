-- The sums of a block: from a work area that the row above left come the direct sums of the rows, and such a work area.
-- Assumes nothing.
use mathlib.Core.Path.{◌≡◌, sym, ◌∙◌, ap, subst}
use Prim.Native.Nat.{ℕ, zero, suc, ◌+◌, ◌-◌, ◌*◌, ◌^◌, ◌≤◌, ◌<◌}
use native.Mathlib.Nat.{mul-le-mul}
use native.Mathlib.Omega.{arith}
use mathlib.Core.List.{List}
use lib.ListN.{length, take}
use lib.Seq.{take_at}
use lib.IntN.{ℤ, pos, nat_abs}
use borrow.Rule.Slice.PartMut.{put_mid, post_of}
use Rattle.numbers.specs.Grid.{rows_from}
use Rattle.numbers.proofs.Grids.{get_d_rows}
use Rattle.numbers.proofs.Lines.{line-end}
use Rattle.numbers.proofs.Writes.{at, part-within}
use Rattle.spec_picture.specs.declared.Frame.{Frame}
use Rattle.spec_picture.specs.Window.{Shape, shape_of}
use Rattle.spec_picture.specs.Picture.{Inputs, plane_at}
use Rattle.spec_picture.specs.Direct.{window_sum, direct_sum}
use Rattle.spec_picture.proofs.Planes.{plane-bound}
use Rattle.spec_picture.proofs.Refusals.{InLimits, in-limits}
use Rattle.spec_rows.specs.Rows.{strip, Advanced}
use Rattle.spec_picture.proofs.Found.{Checked}
use Rattle.spec_rows.proofs.Steps.{Ready, strip-done}
use Rattle.row_session.specs.Blocks.{ready, rows_in, RowSums, Block}

module _ (x : Inputs) (c : Checked x) where
  abbrev z : Frame
  z = x.source.frame

  abbrev P : ℕ → ℕ → ℤ
  P = plane_at x.source

  abbrev s : Shape
  s = shape_of x.window

  abbrev lim : InLimits z
  lim = in-limits z c.frame

  abbrev small : (m n : ℕ) → nat_abs (P m n) ≤ 2 ^ 30
  small = plane-bound x.source c.levels_f c.levels_g

  -- any 16 rows fit into an area
  pub block-fits : (n : ℕ) → n ≤ 16 → n * z.columns ≤ 16384
  block-fits n few = mul-le-mul few lim.few_columns

  is-ready : (i : ℕ) (work : List ℤ) → i < z.rows → ready x i work → Ready z P lim small s i (take z.columns work)
  is-ready zero work h e = tt
  is-ready (suc i) work h e = e h

  was-ready : (i : ℕ) (work : List ℤ) → (i < z.rows → Ready z P lim small s i (take z.columns work)) → ready x i work
  was-ready zero work h = tt
  was-ready (suc i) work h = h

  -- its rows at the fronts of the areas
  pub block_made : (i n : ℕ) (before work block part : List ℤ) → n ≡ rows_in x i → i < z.rows → ready x i before →
      Advanced (strip z P s i n (take z.columns before)) work part → z.columns ≤ length before → length work ≡ z.columns →
      n * z.columns ≤ length block → length part ≡ n * z.columns → Block x i (put_mid 0 z.columns before work) (put_mid 0 (n * z.columns) block part)
  unfolding direct_sum
  block_made i n before work block part n-is below e a room_work len_work room len =
      let d = strip-done z P lim small s i n (take z.columns before) (is-ready i before below e) in
      let rows : part ≡ rows_from i n z.columns (window_sum z s P) = a.output_is ∙ d.rows in
      let none : n * z.columns ≡ n * z.columns - 0 = omega arith in
      let front : take z.columns (put_mid 0 z.columns before work) ≡ work = take_at work (post_of 0 z.columns before) z.columns len_work in
      record {
        sums = λ r j r< j<.
            let r<n : r < n = rw n-is r< in
            let within : r * z.columns + j < n * z.columns = omega (arith, line-end r n z.columns r<n) in
            let back : r * z.columns + j - 0 ≡ r * z.columns + j = omega arith in
            ap (λ (m : ℕ). at (put_mid 0 m block part) (r * z.columns + j)) none
            ∙ part-within 0 (n * z.columns) block part (omega arith) room (omega arith) (r * z.columns + j) (omega arith) within
            ∙ ap (at part) back ∙ ap (λ (l : List ℤ). at l (r * z.columns + j)) rows
            ∙ get_d_rows i n z.columns r j (window_sum z s P) (pos 0) r<n j<;
        after = was-ready (i + 16) (put_mid 0 z.columns before work) (λ h.
            let full : i + n ≡ i + 16 = omega (arith, h, n-is) in
            subst (λ (m : ℕ). Ready z P lim small s m (take z.columns (put_mid 0 z.columns before work))) full
            (subst (Ready z P lim small s (i + n)) (sym a.work_is ∙ sym front) d.ready));
      }

-- the sums of a block's m rows, where y is x on a plane, as the code has it
pub block_sums : (x y : Inputs) → y ≡ x → (i m : ℕ) → m ≡ rows_in x i → {work block : List ℤ} → Block y i work block → RowSums x i m block
block_sums x y e i m m-is {work} {block} b =
    let c : Block x i work block = subst (λ (z : Inputs). Block z i work block) e b in
    λ r j h. c.sums r j (omega (arith, h, m-is))

-- the work area ready for the row that is 16 rows further on
pub ready-after : {x : Inputs} {i : ℕ} {work block : List ℤ} → Block x i work block → (k : ℕ) → i + 16 ≡ k → ready x k work
ready-after {x} {i} {work} {block} b k e = subst (λ (k : ℕ). ready x k work) e b.after
