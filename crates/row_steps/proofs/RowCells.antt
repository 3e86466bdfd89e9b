-- What enters less what leaves from row i to i+1 at one half height, added to a row of sums.
-- Assumes nothing.
use mathlib.Core.Path.{◌≡◌, sym, ◌∙◌, ap, ap₂}
use Prim.Native.Nat.{ℕ, suc, ◌+◌, ◌-◌, ◌≤◌}
use native.Mathlib.Omega.{arith}
use mathlib.Core.List.{List}
use lib.IntN.{ℤ, pos, ◌+ℤ◌, ◌-ℤ◌, +ℤ_idl}
use Rattle.numbers.specs.Grid.{tabulate}
use Rattle.numbers.specs.Wrap.{wrap}
use Rattle.numbers.proofs.Grids.{tabulate-cong, get_d_tabulate}
use Rattle.numbers.proofs.Writes.{at}
use Rattle.std.specs.Prelude.{Option, None, Some, SomeIff, unwrap_or}
use Rattle.spec_picture.specs.Picture.{Source, plane_at}
use Rattle.spec_picture.proofs.Planes.{plane-past}
use Rattle.spec_rows.specs.Rows.{cell_below, cell_above, enter_leave}
use Rattle.spec_rows.proofs.Cells.{cell_below_lem, cell-above, none_above}

module _ (x : Source) (i d : ℕ) where
  abbrev P : ℕ → ℕ → ℤ
  P = plane_at x

  below : (j : ℕ) → P (i + 1 + d) j ≡ cell_below x.frame P (suc i) d j
  below j =
      let e : i + 1 + d ≡ suc i + d = omega arith in
      ap (λ (m : ℕ). P m j) e ∙ sym (cell_below_lem x.frame P (plane-past x) (suc i) d j)

  -- the row d rows above row i leaves; there is none where i is below d
  above : (row : Option ℕ) → SomeIff row (d ≤ i) (i - d) → (leave : ℕ) → leave ≡ unwrap_or row x.frame.rows → (j : ℕ) → P leave j ≡ cell_above x.frame P i d j
  above None h leave e j = ap (λ (m : ℕ). P m j) e ∙ plane-past x x.frame.rows j (omega arith) ∙ sym (none_above x.frame P i d j (omega (arith, h)))
  above (Some m) h leave e j = ap (λ (m : ℕ). P m j) (e ∙ h.1) ∙ sym (cell-above x.frame P (plane-past x) i d j h.0)

  pub row-entered : (row : Option ℕ) → SomeIff row (d ≤ i) (i - d) → (leave : ℕ) → leave ≡ unwrap_or row x.frame.rows → (sums out : List ℤ) →
      out ≡ tabulate x.frame.columns (λ j. wrap (at sums j +ℤ (P (i + 1 + d) j -ℤ P leave j))) → out ≡ tabulate x.frame.columns (λ j. wrap (at sums j +ℤ enter_leave x.frame P i d j))
  unfolding enter_leave
  row-entered row h leave e sums out o =
      o ∙ tabulate-cong x.frame.columns _ _ (λ j j<. ap (λ (y : ℤ). wrap (at sums j +ℤ y)) (ap₂ (λ (y z : ℤ). y -ℤ z) (below j) (above row h leave e j)))

-- added to zeros it is alone
pub difference-alone : (columns n : ℕ) (F : ℕ → ℤ) (zeros out : List ℤ) → n ≡ columns → zeros ≡ tabulate n (λ k. pos 0) → out ≡ tabulate columns (λ j. wrap (at zeros j +ℤ F j)) → out ≡ tabulate columns (λ j. wrap (F j))
difference-alone columns n F zeros out room e o =
    o ∙ tabulate-cong columns (λ j. wrap (at zeros j +ℤ F j)) (λ j. wrap (F j))
    (λ j j<. ap wrap (ap (λ (x : ℤ). x +ℤ F j) (ap (λ (l : List ℤ). at l j) e ∙ get_d_tabulate n j (λ k. pos 0) (pos 0) (omega arith)) ∙ +ℤ_idl (F j)))
