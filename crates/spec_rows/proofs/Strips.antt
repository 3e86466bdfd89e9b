-- Rows one after another, as a loop makes them.
-- Assumes nothing.
use mathlib.Core.Path.{◌≡◌, refl, sym, ◌∙◌, ap, ap₂}
use Prim.Native.Nat.{ℕ, suc, ◌+◌, ◌-◌, ◌*◌, ◌≤◌}
use native.Mathlib.Omega.{arith}
use native.Mathlib.Numerals.{add-one}
use mathlib.Core.Bool.{false, true≢false}
use mathlib.Core.List.{List, ◌++◌, append_assoc}
use lib.ListN.{length, take, length-append}
use lib.Seq.{take_all, take_at, length-take-le}
use lib.IntN.{ℤ}
use borrow.Rule.Slice.PartMut.{put_mid, post_of}
use Rattle.numbers.proofs.Writes.{part_length}
use Rattle.spec_picture.specs.declared.Frame.{Frame}
use Rattle.spec_picture.specs.Window.{Shape, rectangle, slanted, is_rectangle}
use Rattle.spec_rows.specs.Rows.{Strip, strip, Advanced, work_after, output_row}
use Rattle.spec_rows.proofs.Calls.{strip-more}

-- the output row of a window that is no rectangle is the work area
pub output-slanted : (z : Frame) (s : Shape) (work out : List ℤ) → is_rectangle s ≡ false → out ≡ work → out ≡ output_row z s work
unfolding output_row
output-slanted z (rectangle a b) work out e o = absurd (true≢false e)
output-slanted z (slanted s) work out e o = o

-- a part put after what is done is done too
pub put-after : (start n : ℕ) (out part : List ℤ) → start ≤ length out → length part ≡ n → take (start + n) (put_mid start n out part) ≡ take start out ++ part
put-after start n out part h e =
    ap (take (start + n)) (sym (append_assoc (take start out) part (post_of start n out)))
    ∙ take_at (take start out ++ part) (post_of start n out) (start + n) (length-append (take start out) part ∙ ap₂ (λ (a b : ℕ). a + b) (length-take-le start out h) e)

module _ (z : Frame) (P : ℕ → ℕ → ℤ) (s : Shape) (position : ℕ) (start : List ℤ) where
  -- k rows are done: the work area is theirs, and so is the front of the output area
  pub record Partly (k : ℕ) (work out : List ℤ) : Type 0 where
    pub work_is : work ≡ (strip z P s position k start).work
    pub output_is : take (k * z.columns) out ≡ (strip z P s position k start).output

  pub partly_none : (out : List ℤ) → Partly 0 start out
  unfolding strip
  partly_none out =
      let e : 0 * z.columns ≡ 0 = omega arith in
      record { work_is = refl; output_is = ap (λ (m : ℕ). take m out) e }

  pub partly_more : (k at : ℕ) (work out next part : List ℤ) → Partly k work out → at ≡ k * z.columns → at + z.columns ≤ length out →
      next ≡ work_after z P s (position + k) work → part ≡ output_row z s next → length part ≡ z.columns →
      Partly (k + 1) next (put_mid at (at + z.columns - at) out part)
  partly_more k at work out next part u ea room en ep l =
      let w : work_after z P s (position + k) (strip z P s position k start).work ≡ next = ap (work_after z P s (position + k)) (sym u.work_is) ∙ sym en in
      let one : strip z P s position (k + 1) start ≡ strip z P s position (suc k) start = ap (λ (m : ℕ). strip z P s position m start) (add-one k) in
      let more = one ∙ strip-more z P s position k start in
      let span : at + z.columns - at ≡ z.columns = omega arith in
      let upto : (k + 1) * z.columns ≡ at + z.columns = omega (arith, ea) in
      record {
        work_is = sym w ∙ sym (ap (λ (r : Strip). r.work) more);
        output_is =
            ap (λ (m : ℕ). take m (put_mid at (at + z.columns - at) out part)) upto
            ∙ ap (λ (m : ℕ). take (at + z.columns) (put_mid at m out part)) span
            ∙ put-after at z.columns out part (omega arith) l
            ∙ ap₂ ◌++◌ (ap (λ (m : ℕ). take m out) ea ∙ u.output_is) (ep ∙ ap (output_row z s) (sym w))
            ∙ sym (ap (λ (r : Strip). r.output) more);
      }

  pub partly-all : (n k : ℕ) (work out : List ℤ) → Partly k work out → k ≡ n → length out ≡ n * z.columns → Advanced (strip z P s position n start) work out
  partly-all n k work out u e l =
      record {
        work_is = u.work_is ∙ ap (λ (m : ℕ). (strip z P s position m start).work) e;
        output_is = sym (take_all (n * z.columns) out (omega arith)) ∙ ap (λ (m : ℕ). take (m * z.columns) out) (sym e) ∙ u.output_is ∙ ap (λ (m : ℕ). (strip z P s position m start).output) e;
      }

-- a row put in front, and the others after it
pub two-parts : (columns end : ℕ) (out row rest : List ℤ) → columns ≤ end → length out ≡ end → length row ≡ columns → length rest ≡ end - columns →
    put_mid columns (end - columns) (put_mid 0 (columns - 0) out row) rest ≡ row ++ rest
two-parts columns end out row rest h e er es =
    let front = put_mid 0 (columns - 0) out row in
    let span : columns + (end - columns) ≡ end = omega arith in
    let none : columns - 0 ≡ columns = omega arith in
    let from : columns ≡ 0 + columns = omega arith in
    let front_length : length front ≡ end = part_length 0 columns out row (omega arith) (omega arith) (er ∙ sym none) ∙ e in
    let whole_length : length (put_mid columns (end - columns) front rest) ≡ end = part_length columns end front rest h (omega arith) es ∙ front_length in
    sym (take_all end (put_mid columns (end - columns) front rest) (omega arith))
    ∙ ap (λ (m : ℕ). take m (put_mid columns (end - columns) front rest)) (sym span)
    ∙ put-after columns (end - columns) front rest (omega arith) es
    ∙ ap (λ (l : List ℤ). l ++ rest) (ap (λ (m : ℕ). take columns (put_mid 0 m out row)) none ∙ ap (λ (m : ℕ). take m (put_mid 0 columns out row)) from ∙ put-after 0 columns out row (omega arith) er)

-- the first row of a call, and those after it
pub first-and-rest : (z : Frame) (P : ℕ → ℕ → ℤ) (s : Shape) (position m n : ℕ) (start next row work rest : List ℤ) → n ≡ suc m →
    next ≡ work_after z P s position start → row ≡ output_row z s next → Advanced (strip z P s (suc position) m next) work rest → Advanced (strip z P s position n start) work (row ++ rest)
unfolding strip
first-and-rest z P s position m n start next row work rest e en er a =
    let w = work_after z P s position start in
    rw e (record {
      work_is = a.work_is ∙ ap (λ (l : List ℤ). (strip z P s (suc position) m l).work) en;
      output_is = ap₂ ◌++◌ (er ∙ ap (output_row z s) en) (a.output_is ∙ ap (λ (l : List ℤ). (strip z P s (suc position) m l).output) en);
    })
