-- Row after row: the edges' change is the session's, and the rows that a loop has made.
-- Assumes nothing.
use mathlib.Core.Path.{◌≡◌, sym, ◌∙◌, ap, ap₂}
use Prim.Native.Nat.{ℕ, suc, ◌+◌, ◌-◌, ◌*◌, ◌≤◌}
use native.Mathlib.Omega.{arith}
use mathlib.Core.List.{List}
use lib.ListN.{length}
use lib.IntN.{ℤ, ◌+ℤ◌}
use borrow.Rule.Slice.PartMut.{put_mid}
use Rattle.numbers.specs.Wrap.{wrap}
use Rattle.numbers.proofs.Grids.{tabulate-cong, length-tabulate}
use Rattle.numbers.proofs.Writes.{at}
use Rattle.spec_picture.specs.declared.Frame.{Frame}
use Rattle.spec_picture.specs.Window.{Shape, shape_of}
use Rattle.spec_picture.specs.Checked.{given, checked_source}
use Rattle.spec_picture.proofs.Planes.{plane-past, plane-beside}
use Rattle.spec_rows.specs.Rows.{work_after, work_change}
use Rattle.spec_rows.proofs.Strips.{Partly, partly_more, output-slanted}
use Rattle.slope_loops.specs.Slopes.{edges_change}
use Rattle.slope_loops.proofs.Parts.{change-parts}
use Rattle.slope_rows.specs.declared.kept_slopes.SlantedInputs.{SlantedInputs}
use Rattle.slope_rows.specs.Edges.{plane_in, edged}
use Rattle.slope_rows.proofs.Windows.{apart-in}

module _ (x : SlantedInputs) where
  abbrev z : Frame
  z = x.inputs.source.frame

  abbrev P : ℕ → ℕ → ℤ
  P = plane_in x

  abbrev S : Shape
  S = shape_of (given x.inputs.window)

  edged-after : (i : ℕ) (work : List ℤ) → edged x i work ≡ work_after z P S (suc i) work
  unfolding work_after
  edged-after i work =
      let f = x.fits in
      let source = checked_source x.inputs.source in
      tabulate-cong z.columns (λ j. wrap (at work j +ℤ edges_change z P x.height x.width i j)) (λ j. wrap (at work j +ℤ work_change z P S i j))
      (λ j j<. ap (λ (v : ℤ). wrap (at work j +ℤ v))
      (ap₂ (λ (a b : ℕ). edges_change z P a b i j) f.high f.wide
      ∙ sym (change-parts z P (plane-past source) (plane-beside source) S f.slanted (omega (arith, f.high, f.low, f.narrow)) (omega (arith, f.wide, f.narrow)) (rw f.wide at (apart-in x)) i j j<)))

  -- one row more after row i
  pub passed-more : (i m begin : ℕ) (before work out next part : List ℤ) → Partly z P S (suc i) before m work out → begin ≡ m * z.columns → begin + z.columns ≤ length out →
      next ≡ edged x (i + m) work → part ≡ edged x (i + m) work →
      Partly z P S (suc i) before (m + 1) next (put_mid begin (begin + z.columns - begin) out part)
  passed-more i m begin before work out next part u eb room en ep =
      let moved : suc (i + m) ≡ suc i + m = omega arith in
      let after : edged x (i + m) work ≡ work_after z P S (suc i + m) work = edged-after (i + m) work ∙ ap (λ (p : ℕ). work_after z P S p work) moved in
      partly_more z P S (suc i) before m begin work out next part u eb room (en ∙ after) (output-slanted z S next part x.fits.slanted (ep ∙ sym en)) (ap length ep ∙ length-tabulate z.columns _)
