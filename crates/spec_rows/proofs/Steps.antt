-- From a fresh start the work area holds what the paper says, and the output rows are the window sums.
-- Assumes nothing.
use mathlib.Core.Path.{◌≡◌, refl, sym, ◌∙◌, ap, ap₂}
use Prim.Native.Nat.{ℕ, zero, suc, ◌+◌, ◌^◌, ◌≤◌, ◌<◌}
use native.Mathlib.Omega.{arith}
use native.Mathlib.Nat.{mul-le-mul}
use mathlib.Core.Bool.{Bool, true, false}
use mathlib.Core.List.{List, ◌++◌}
use lib.Dec.{leb}
use lib.ListN.{get_or}
use lib.IntN.{ℤ, pos, nat_abs, ◌+ℤ◌}
use Rattle.numbers.specs.Sum.{sum_to, pick}
use Rattle.numbers.specs.Grid.{tabulate, rows_from}
use Rattle.numbers.specs.Wrap.{wrap}
use Rattle.numbers.proofs.Sums.{sum-add, sum-cong, near_step, sum_bound, pick-bound}
use Rattle.numbers.proofs.Grids.{tabulate-cong, get_d_tabulate}
use Rattle.numbers.proofs.Wraps.{wrap-small}
use Rattle.spec_picture.specs.Window.{Shape, rectangle, slanted, width, depth}
use Rattle.spec_picture.specs.declared.Frame.{Frame}
use Rattle.spec_picture.specs.Frame.{row_gap, column_gap}
use Rattle.spec_picture.specs.Direct.{window_sum}
use Rattle.spec_picture.proofs.Refusals.{InLimits}
use Rattle.spec_picture.proofs.Windows.{by-columns, window-bound}
use Rattle.spec_rows.specs.Rows.{column_sum, cell_below, cell_above, enter_leave, work_value, work_change, work_after, output_row, Strip, strip}

pick-add : (b : Bool) (x y : ℤ) → pick b (x +ℤ y) ≡ pick b x +ℤ pick b y
unfolding pick
pick-add true x y = refl
pick-add false x y = refl

module _ (z : Frame) (P : ℕ → ℕ → ℤ) where
  -- a column's sum, one row further down: a cell enters and a cell leaves
  pub column-step : (a i n : ℕ) → column_sum z P a (suc i) n ≡ column_sum z P a i n +ℤ enter_leave z P i a n
  unfolding column_sum enter_leave cell_below cell_above
  column-step a i n = near_step z.rows i a (λ m. P m n)

  -- a window, column by column
  pub window-columns : (s : Shape) (i j : ℕ) → window_sum z s P i j ≡
      sum_to z.columns (λ n. pick (leb (column_gap z j n) (width s)) (column_sum z P (depth s (column_gap z j n)) i n))
  unfolding column_sum
  window-columns s i j = by-columns z s P i j

  -- a window, one row further down
  pub window-step : (s : Shape) (i j : ℕ) → window_sum z s P (suc i) j ≡ window_sum z s P i j +ℤ
      sum_to z.columns (λ n. pick (leb (column_gap z j n) (width s)) (enter_leave z P i (depth s (column_gap z j n)) n))
  window-step s i j = rw (window-columns s (suc i) j, window-columns s i j) (simp (column-step, pick-add, sum-add))

  -- the work area's number, one row further down
  pub work_step : (s : Shape) (i j : ℕ) → work_value z P s (suc i) j ≡ work_value z P s i j +ℤ work_change z P s i j
  unfolding work_value work_change
  work_step (rectangle a b) i j = column-step a i j
  work_step (slanted o) i j = window-step (slanted o) i j

  -- the work area after row i of a session begun fresh
  abbrev pub work_row : Shape → ℕ → List ℤ
  work_row s i = tabulate z.columns (work_value z P s i)

  module _ (lim : InLimits z) (small : (m n : ℕ) → nat_abs (P m n) ≤ 2 ^ 30) where
    pub column_fits : (a i n : ℕ) → nat_abs (column_sum z P a i n) ≤ 2 ^ 38
    unfolding column_sum
    column_fits a i n =
        omega (
          arith,
          sum_bound z.rows (2 ^ 30) (λ m. pick (leb (row_gap z i m) a) (P m n))
              (λ m l. omega (arith, pick-bound (leb (row_gap z i m) a) (P m n), small m n)),
          lim.few_rows,
        )

    pub window-fits : (s : Shape) (i j : ℕ) → nat_abs (window_sum z s P i j) ≤ 2 ^ 48
    window-fits s i j =
        omega (arith, window-bound z s P (2 ^ 30) i j small, mul-le-mul lim.few_rows lim.few_columns)

    work-fits : (s : Shape) (i j : ℕ) → nat_abs (work_value z P s i j) < 2 ^ 63
    unfolding work_value
    work-fits (rectangle a b) i j = omega (arith, column_fits a i j)
    work-fits (slanted o) i j = omega (arith, window-fits (slanted o) i j)

    pub work-next : (s : Shape) (i : ℕ) → work_after z P s (suc i) (work_row s i) ≡ work_row s (suc i)
    unfolding work_after
    work-next s i =
        tabulate-cong z.columns (λ j. wrap (get_or (work_row s i) j (pos 0) +ℤ work_change z P s i j)) (work_value z P s (suc i))
        (λ j h. rw (get_d_tabulate z.columns j (work_value z P s i) (pos 0) h, ← work_step s i j) (wrap-small (work_value z P s (suc i) j) (work-fits s (suc i) j)))

    pub output_is : (s : Shape) (i : ℕ) → output_row z s (work_row s i) ≡ tabulate z.columns (window_sum z s P i)
    unfolding output_row work_value width depth
    output_is (rectangle a b) i =
        tabulate-cong z.columns (λ j. wrap (sum_to z.columns (λ n. pick (leb (column_gap z j n) b) (get_or (work_row (rectangle a b) i) n (pos 0))))) (window_sum z (rectangle a b) P i)
        (λ j h. ap wrap (over j) ∙ wrap-small (window_sum z (rectangle a b) P i j) (omega (arith, window-fits (rectangle a b) i j)))
      where
        over : (j : ℕ) → sum_to z.columns (λ n. pick (leb (column_gap z j n) b) (get_or (work_row (rectangle a b) i) n (pos 0))) ≡ window_sum z (rectangle a b) P i j
        over j =
            sum-cong z.columns (λ n. pick (leb (column_gap z j n) b) (get_or (work_row (rectangle a b) i) n (pos 0))) (λ n. pick (leb (column_gap z j n) b) (column_sum z P a i n))
            (λ n h. ap (pick (leb (column_gap z j n) b)) (get_d_tabulate z.columns n (work_value z P (rectangle a b) i) (pos 0) h))
            ∙ sym (window-columns (rectangle a b) i j)
    output_is (slanted o) i = refl

    -- the work area at a position: anything at 0, and later what row position - 1 left
    abbrev pub Ready : Shape → (position : ℕ) → List ℤ → Type 0
    Ready s zero work = Unit
    Ready s (suc i) work = work ≡ work_row s i

    after : (s : Shape) (p : ℕ) (work : List ℤ) → Ready s p work → work_after z P s p work ≡ work_row s p
    after s zero work e = unfold work_after in refl
    after s (suc i) work e = ap (work_after z P s (suc i)) e ∙ work-next s i

    -- n rows from a position on
    pub record Done (s : Shape) (p n : ℕ) (work : List ℤ) (r : Strip) : Type 0 where
      pub rows : r.output ≡ rows_from p n z.columns (window_sum z s P)
      pub ready : Ready s (p + n) r.work

    pub strip-done : (s : Shape) (p n : ℕ) (work : List ℤ) → Ready s p work → Done s p n work (strip z P s p n work)
    unfolding strip rows_from
    strip-done s p zero work e =
        let k : p + 0 ≡ p = omega arith in
        record { rows = refl; ready = rw k e }
    strip-done s p (suc n) work e =
        let a = after s p work e in
        let d = strip-done s (suc p) n (work_after z P s p work) a in
        let k : p + suc n ≡ suc p + n = omega arith in
        record {
          rows = ap₂ ◌++◌ (ap (output_row z s) a ∙ output_is s p) d.rows;
          ready = rw k d.ready;
        }
