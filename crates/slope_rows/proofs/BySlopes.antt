-- A row of sums from its first one, by the slopes; and that those of row 0 are the window sums.
-- Assumes nothing.
use mathlib.Core.Path.{◌≡◌, refl, sym, ◌∙◌, ap, ap₂, subst}
use Prim.Native.Nat.{ℕ, zero, suc, ◌+◌, ◌-◌, ◌*◌, ◌^◌, ◌≤◌, ◌<◌}
use native.Mathlib.Nat.{suc-mul}
use native.Mathlib.Omega.{arith}
use native.Mathlib.Numerals.{add-one}
use mathlib.Core.Bool.{Bool, true, false, not, true≢false}
use mathlib.Core.List.{List, ◌++◌}
use lib.Dec.{T}
use lib.IntN.{ℤ, pos, nat_abs, ◌+ℤ◌, ◌-ℤ◌}
use lib.ListN.{length, take}
use lib.Seq.{take_all}
use borrow.Rule.Slice.PartMut.{put_mid}
use Rattle.numbers.specs.Grid.{tabulate}
use Rattle.numbers.specs.Wrap.{wrap}
use Rattle.numbers.proofs.Grids.{tabulate-cong}
use Rattle.numbers.proofs.Wraps.{wrap-small}
use Rattle.numbers.proofs.Writes.{at, part_length}
use Rattle.spec_picture.specs.declared.Frame.{Frame}
use Rattle.spec_picture.specs.Frame.{Apart}
use Rattle.spec_picture.specs.Window.{Shape, rectangle, slanted, shape_of, is_rectangle, height, width}
use Rattle.spec_picture.specs.Picture.{Inputs, plane_at}
use Rattle.spec_picture.specs.Direct.{window_sum, direct_sum}
use Rattle.spec_picture.proofs.Planes.{plane-bound, plane-past, plane-beside}
use Rattle.spec_picture.proofs.Refusals.{InLimits, in-limits}
use Rattle.spec_picture.proofs.Windows.{height-small, width_small}
use Rattle.spec_rows.specs.Rows.{strip, Advanced, work_value, work_after}
use Rattle.spec_rows.proofs.Strips.{output-slanted, put-after, first-and-rest}
use Rattle.spec_rows.proofs.Steps.{window-fits}
use Rattle.slope_loops.specs.Slopes.{padded, rising, falling}
use Rattle.spec_picture.proofs.Found.{Checked}
use Rattle.slope_rows.specs.Edges.{Slopes, sum_by_slopes, TopDone, FromDone}
use Rattle.slope_rows.proofs.First.{first_step}
use Rattle.slope_loops.specs.declared.padding.TheConstants.{ABOVE, MARGIN}
use Rattle.slope_rows.specs.declared.places.TheConstants.{FALLING_START, RISING_START, SLOPE_SHIFT}

module _ (first_sum : ℤ) (rises falls : List ℤ) where
  pub by-slopes-none : sum_by_slopes first_sum rises falls 0 ≡ first_sum
  unfolding sum_by_slopes
  by-slopes-none = refl

  pub by-slopes-more : (j : ℕ) → wrap (sum_by_slopes first_sum rises falls j +ℤ (at rises (j + RISING_START) -ℤ at falls (j + FALLING_START + 1))) ≡ sum_by_slopes first_sum rises falls (j + 1)
  unfolding sum_by_slopes
  by-slopes-more j = sym (ap (sum_by_slopes first_sum rises falls) (add-one j))

module _ (z : Frame) (P : ℕ → ℕ → ℤ) (past : (m n : ℕ) → z.rows ≤ m → P m n ≡ pos 0) (beside : (m n : ℕ) → z.columns ≤ n → P m n ≡ pos 0) (lim : InLimits z) (small : (m n : ℕ) → nat_abs (P m n) ≤ 2 ^ 30)
    (s : Shape) (no-rectangle : is_rectangle s ≡ false) (low : height s ≤ 127) (narrow : width s ≤ 127) (apart : Apart z (width s)) (some : 1 ≤ height s) (rises falls : List ℤ)
    (more : ℕ) (kept : Slopes (padded z P) z.columns more (width s) (height s) ABOVE 0 rises falls) where
  by-slopes-is : (j : ℕ) → j < z.columns → sum_by_slopes (window_sum z s P 0 0) rises falls j ≡ window_sum z s P 0 j
  unfolding sum_by_slopes
  by-slopes-is zero h = refl
  by-slopes-is (suc j) h =
      let right : j + RISING_START + SLOPE_SHIFT - 0 ≡ MARGIN + j = omega arith in
      let left : j + FALLING_START + 1 + 0 - SLOPE_SHIFT ≡ MARGIN + 1 + j = omega arith in
      let enters = kept.rising_at (j + RISING_START) (omega arith) (omega arith) ∙ ap (rising (padded z P) (width s) (height s) ABOVE) right in
      let leaves = kept.falling_at (j + FALLING_START + 1) (omega arith) (omega arith) ∙ ap (falling (padded z P) (width s) (height s) ABOVE) left in
      ap wrap (ap₂ ◌+ℤ◌ (by-slopes-is j (omega arith)) (ap₂ ◌-ℤ◌ enters leaves) ∙ sym (first_step z P past beside s no-rectangle low narrow apart j h some))
      ∙ wrap-small (window_sum z s P 0 (suc j)) (omega (arith, window-fits z P lim small s 0 (suc j)))

  pub by-slopes-windows : tabulate z.columns (sum_by_slopes (window_sum z s P 0 0) rises falls) ≡ tabulate z.columns (window_sum z s P 0)
  by-slopes-windows = tabulate-cong z.columns (sum_by_slopes (window_sum z s P 0 0) rises falls) (window_sum z s P 0) by-slopes-is

-- the work area of row 0, as a call makes it from the first sum and the slopes
pub fresh-row : (x : Inputs) (c : Checked x) (no-rectangle : is_rectangle (shape_of x.window) ≡ false) (some : 1 ≤ height (shape_of x.window)) (rises falls before next : List ℤ) (first_sum : ℤ) (n more : ℕ) →
    Slopes (padded x.source.frame (plane_at x.source)) x.source.frame.columns more (width (shape_of x.window)) (height (shape_of x.window)) ABOVE 0 rises falls → Apart x.source.frame (width (shape_of x.window)) →
    first_sum ≡ direct_sum x 0 0 → n ≡ x.source.frame.columns → next ≡ tabulate n (sum_by_slopes first_sum rises falls) → next ≡ work_after x.source.frame (plane_at x.source) (shape_of x.window) 0 before
unfolding direct_sum
fresh-row x c no-rectangle some rises falls before next first_sum n more kept apart ec en e =
    let z = x.source.frame in
    let P = plane_at x.source in
    e
    ∙ ap₂ (λ (m : ℕ) (v : ℤ). tabulate m (sum_by_slopes v rises falls)) en ec
    ∙ by-slopes-windows z P (plane-past x.source) (plane-beside x.source) (in-limits z c.frame) (plane-bound x.source c.levels_f c.levels_g) (shape_of x.window) no-rectangle (height-small x.window c.window) (width_small x.window c.window) apart some rises falls more kept
    ∙ go (shape_of x.window) no-rectangle
  where
    go : (s : Shape) → is_rectangle s ≡ false → tabulate x.source.frame.columns (window_sum x.source.frame s (plane_at x.source) 0) ≡ work_after x.source.frame (plane_at x.source) s 0 before
    go (rectangle a b) e = absurd (true≢false e)
    go (slanted o) e = unfold work_after work_value in refl

-- ---- a test that is on or off
pub on-and-off : (b : Bool) → T b → T (not b) → ⊥
on-and-off true t u = u
on-and-off false t u = t

-- ---- the rows after row 0, or all of them
-- where they begin in the output area, and what is left for them
pub rest-fits : (fresh : Bool) (begin columns n l : ℕ) → (T fresh → begin ≡ columns) → (T (not fresh) → begin ≡ 0) → (T fresh → l ≡ suc n * columns) → (T (not fresh) → l ≡ n * columns) → (begin ≤ l) × (l - begin ≡ n * columns)
rest-fits true begin columns n l b o r s =
    let e : suc n * columns ≡ n * columns + columns = suc-mul n columns in
    (omega (arith, b tt, r tt, e), omega (arith, b tt, r tt, e))
rest-fits false begin columns n l b o r s = (omega (arith, o tt), omega (arith, o tt, s tt))

-- the rest of an area put after its front
put_rest : (start end : ℕ) (out rest : List ℤ) → start ≤ end → length out ≡ end → length rest ≡ end - start → put_mid start (end - start) out rest ≡ take start out ++ rest
put_rest start end out rest h e er =
    let span : start + (end - start) ≡ end = omega arith in
    let whole : length (put_mid start (end - start) out rest) ≡ end = part_length start end out rest h (omega arith) er ∙ e in
    sym (take_all end (put_mid start (end - start) out rest) (omega arith)) ∙ ap (λ (m : ℕ). take m (put_mid start (end - start) out rest)) (sym span) ∙ put-after start (end - start) out rest (omega arith) er

pub rows-done : (x : Inputs) (fresh : Bool) (i n begin end : ℕ) (before next out work rest : List ℤ) → is_rectangle (shape_of x.window) ≡ false → (T fresh → i ≡ 0) → TopDone x fresh before next out begin →
    begin ≤ end → length out ≡ end → length rest ≡ end - begin → Advanced (strip x.source.frame (plane_at x.source) (shape_of x.window) (suc i) n next) work rest →
    FromDone x fresh i n before work (put_mid begin (end - begin) out rest)
rows-done x true i n begin end before next out work rest no-rectangle at_0 top h e er a =
    let z = x.source.frame in
    let P = plane_at x.source in
    let S = shape_of x.window in
    let row = top.front tt in
    let put : put_mid begin (end - begin) out rest ≡ next ++ rest = put_rest begin end out rest h e er ∙ ap (λ (l : List ℤ). l ++ rest) (ap (λ (m : ℕ). take m out) (top.begins tt) ∙ row) in
    record {
      from_0 = λ t. subst (Advanced (strip z P S 0 (suc n) before) work) (sym put)
          (first-and-rest z P S 0 n (suc n) before next next work rest refl (top.row tt) (output-slanted z S next next no-rectangle refl) (subst (λ (k : ℕ). Advanced (strip z P S (suc k) n next) work rest) (at_0 tt) a));
      after = λ t. absurd t;
    }
rows-done x false i n begin end before next out work rest no-rectangle at_0 top h e er a =
    let z = x.source.frame in
    let P = plane_at x.source in
    let S = shape_of x.window in
    let put : put_mid begin (end - begin) out rest ≡ rest = put_rest begin end out rest h e er ∙ ap (λ (m : ℕ). take m out ++ rest) (top.none tt) in
    record {
      from_0 = λ t. absurd t;
      after = λ t. subst (Advanced (strip z P S (suc i) n before) work) (sym put) (subst (λ (l : List ℤ). Advanced (strip z P S (suc i) n l) work rest) (top.kept tt) a);
    }

-- row 0 at the front of the output area
pub row-front : (columns : ℕ) (out row next : List ℤ) → columns ≤ length out → length row ≡ columns → row ≡ next → take columns (put_mid 0 columns out row) ≡ next
row-front columns out row next h e er =
    let from : columns ≡ 0 + columns = omega arith in
    ap (λ (m : ℕ). take m (put_mid 0 columns out row)) from ∙ put-after 0 columns out row (omega arith) e ∙ er
