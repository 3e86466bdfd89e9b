-- The table's rows as code writes them: each row's running sum, added to the row above.
-- Assumes nothing.
use mathlib.Core.Path.{◌≡◌, refl, sym, ◌∙◌, ap}
use mathlib.Core.List.{List, [], ◌++◌}
use Prim.Native.Nat.{ℕ, zero, suc, ◌+◌, ◌-◌, ◌*◌, ◌^◌, ◌≤◌, ◌<◌}
use native.Mathlib.Nat.{mul-le-mul, zero-mul, suc-mul}
use native.Mathlib.Omega.{arith}
use lib.IntN.{ℤ, pos, nat_abs, ◌+ℤ◌}
use lib.ListN.{length, take, drop, get_or-append}
use lib.Seq.{get_or-take, get_or-append-add}
use Rattle.numbers.specs.Grid.{tabulate}
use Rattle.numbers.specs.Sum.{sum_to}
use Rattle.numbers.specs.Wrap.{wrap}
use Rattle.numbers.proofs.Grids.{get_d_tabulate, tabulate-cong}
use Rattle.numbers.proofs.Lines.{Lines, lines_none, lines_next, line-end, tabulated-length}
use Rattle.numbers.proofs.Sums.{sum-suc, sum-cong, sum_bound}
use Rattle.numbers.proofs.Wraps.{wrap-small}
use Rattle.numbers.proofs.Writes.{at, slice_at}
use Rattle.spec_table.specs.Table.{table_at}
use Rattle.table.specs.RowSums.{row_number}

-- the same of equal rows
pub row-as : {m n : ℕ} → m ≡ n → (above : List ℤ) (row same : ℕ → ℤ) (out : List ℤ) → out ≡ tabulate m (row_number above row) → ((q : ℕ) → q < n → row q ≡ same q) → out ≡ tabulate n (row_number above same)
row-as {m} {n} size above row same out e h =
    e ∙ ap (λ (k : ℕ). tabulate k (row_number above row)) size
    ∙ tabulate-cong n (row_number above row) (row_number above same) (λ j j<. ap (λ (z : ℤ). wrap (at above j +ℤ z)) (sum-cong (suc j) row same (λ q q<. h q (omega arith))))

-- the same of a row of the plane that was written first, and summed in its place
pub row-of-part : (P : ℕ → ℕ → ℤ) (i : ℕ) {m n : ℕ} → m ≡ n → (above part out : List ℤ) → part ≡ tabulate m (P i) → out ≡ tabulate (length part) (row_number above (at part)) → out ≡ tabulate n (row_number above (P i))
row-of-part P i {m} {n} size above part out e w =
    let width : length part ≡ n = tabulated-length part m _ e ∙ size in
    row-as width above (at part) (P i) out w
    (λ q q<. ap (λ (l : List ℤ). at l q) e ∙ get_d_tabulate m q (P i) (pos 0) (omega arith))

-- what is above row i at column j: T of the row above, and 0 above the first
abbrev pub above_row : (ℕ → ℕ → ℤ) → (i j : ℕ) → ℤ
above_row P i j = sum_to i (λ p. sum_to (suc j) (λ q. P p q))

above-none : (P : ℕ → ℕ → ℤ) (j : ℕ) → pos 0 ≡ above_row P 0 j
unfolding sum_to
above-none P j = refl

above-next : (P : ℕ → ℕ → ℤ) (i j : ℕ) → table_at P i j ≡ above_row P (suc i) j
unfolding table_at
above-next P i j = refl

above-more : (P : ℕ → ℕ → ℤ) (i j : ℕ) → above_row P i j +ℤ sum_to (suc j) (P i) ≡ table_at P i j
unfolding table_at
above-more P i j = sym (sum-suc i (λ p. sum_to (suc j) (λ q. P p q)))

module _ (P : ℕ → ℕ → ℤ) (small : (m n : ℕ) → nat_abs (P m n) ≤ 2 ^ 30) where
  -- "64-bit signed numbers" hold T
  table_fits : (i j : ℕ) → i < 256 → j < 1024 → nat_abs (table_at P i j) < 2 ^ 63
  unfolding table_at
  table_fits i j hi hj =
      let r : ℕ → ℤ = λ p. sum_to (suc j) (λ q. P p q) in
      let one : (p : ℕ) → p < suc i → nat_abs (r p) ≤ suc j * 2 ^ 30 = λ p l. sum_bound (suc j) (2 ^ 30) (P p) (λ q m. small p q) in
      let few : suc i * suc j ≤ 256 * 1024 = mul-le-mul {n₁ = suc i} {m₁ = suc j} {n₂ = 256} {m₂ = 1024} (omega arith) (omega arith) in
      omega (arith, sum_bound (suc i) (suc j * 2 ^ 30) r one)

  -- the number that is written is T's
  next-table : (above : List ℤ) (i j : ℕ) → i < 256 → j < 1024 → at above j ≡ above_row P i j → row_number above (P i) j ≡ table_at P i j
  next-table above i j hi hj e =
      ap wrap (ap (λ (z : ℤ). z +ℤ sum_to (suc j) (P i)) e ∙ above-more P i j)
      ∙ wrap-small (table_at P i j) (table_fits i j hi hj)

  -- a row more, written below i rows of the table
  module _ (c : ℕ) (few : c ≤ 1024) where
    rows-more : (i : ℕ) (above before row after : List ℤ) → i < 256 → length before ≡ i * c → Lines (table_at P) c before i → ((j : ℕ) → j < c → at above j ≡ above_row P i j) → row ≡ tabulate c (row_number above (P i)) →
        Lines (table_at P) c (before ++ (row ++ after)) (i + 1)
    rows-more i above before row after hi width u upper e =
        lines_next (table_at P) c before (before ++ (row ++ after)) i (length before) u width (λ k k<. get_or-append before (row ++ after) (pos 0) k k<)
        (λ j j<. get_or-append-add before (row ++ after) j (pos 0)
        ∙ get_or-append row after (pos 0) j (omega (arith, tabulated-length row c _ e))
        ∙ ap (λ (l : List ℤ). at l j) e
        ∙ get_d_tabulate c j (row_number above (P i)) (pos 0) j<
        ∙ next-table above i j hi (omega arith) (upper j j<))

    -- nothing is above the first
    pub first-rows : (row after : List ℤ) → row ≡ tabulate c (row_number [] (P 0)) → Lines (table_at P) c (row ++ after) 1
    first-rows row after e = rows-more 0 [] [] row after (omega arith) (sym (zero-mul c)) (lines_none _ _ _) (λ j j<. above-none P j) e

    -- and above a later one the last of the rows before it
    pub next-rows : (i : ℕ) (table before row after : List ℤ) → 1 ≤ i → i < 256 → length before ≡ i * c → before ≡ take (i * c) table → Lines (table_at P) c table i →
        row ≡ tabulate c (row_number (take (length before - (i - 1) * c) (drop ((i - 1) * c) before)) (P i)) → Lines (table_at P) c (before ++ (row ++ after)) (i + 1)
    next-rows zero table before row after some hi width front u e = absurd (omega arith)
    next-rows (suc m) table before row after some hi width front u e = rows-more (suc m) above before row after hi width v upper e
      where
        lo : ℕ
        lo = (suc m - 1) * c

        start : lo ≡ m * c
        start =
            let one : suc m - 1 ≡ m = omega arith in
            ap (λ (n : ℕ). n * c) one

        above : List ℤ
        above = take (length before - lo) (drop lo before)

        v : Lines (table_at P) c before (suc m)
        v = record { each = λ y x y< x<. ap (λ (l : List ℤ). at l (y * c + x)) front ∙ get_or-take (suc m * c) table (y * c + x) (pos 0) (omega (arith, line-end y (suc m) c y<)) ∙ u.each y x y< x< }

        upper : (j : ℕ) → j < c → at above j ≡ above_row P (suc m) j
        upper j j< =
            let room : lo + c ≡ length before = omega (arith, start, width, suc-mul m c) in
            slice_at lo (length before) before (omega arith) (omega arith) j (omega arith) ∙ ap (λ (n : ℕ). at before (n + j)) start ∙ v.each m j (omega arith) j< ∙ above-next P m j
