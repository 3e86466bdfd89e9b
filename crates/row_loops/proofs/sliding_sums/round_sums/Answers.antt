-- `row_loops::sliding_sums::round_sums` meets its contract. Assumes nothing.
use mathlib.Core.Path.{◌≡◌, ◌∙◌, ap₂}
use Prim.Native.Nat.{suc, ◌+◌, ◌-◌}
use native.Mathlib.Omega.{arith}
use lib.IntN.{◌+ℤ◌, ◌-ℤ◌}
use lib.ListN.{length}
use mir.Syntax.{w64}
use mir.Val.{SFits}
use mir.Facts.{to_z-of_z}
use Rattle.numbers.specs.Wrap.{wrap}
use Rattle.numbers.proofs.Writes.{at}
use Rattle.row_loops.proofs.RoundChanges.{round-first, round-middle, round-last}
use Rattle.row_loops.proofs.Sliding.{slid-on, round-none, round-all, part-place}
use Rattle.row_loops.proofs.sliding_sums.round_sums.Goals as goal

pub returns : goal.returns
returns c =
    let row = c.args.work.now in
    let b = c.args.b in
    let n = length row in
    let low = b + 1 in
    let high = n - b in
    let both = high - low in
    let fits = c.requires.1 in
    let x : SFits w64 c.total.result = record { sfits = c.total.type_inv } in
    let y : SFits w64 c.total-2.result = record { sfits = c.total-2.type_inv } in
    let start : c.wrapping_add-s.result ≡ wrap (c.total.result +ℤ c.total-2.result) = simp (to_z-of_z, x, y) at c.wrapping_add-s.ensures in
    let before = round-none row b c.wrapping_add-s.result c.total.result c.total-2.result fits start c.total.ensures c.total-2.ensures c.args.out.now in
    let first =
    slid-on before low (omega arith) (omega arith) c.slide-s.ensures
    (λ k l. ap₂ ◌-ℤ◌ (part-place row b (b + low - b) k (0 + k + b) (omega arith) (omega arith)) (part-place row (n - low) (n - (n - low)) k (n - (suc b - (0 + k))) (omega arith) (omega arith))
    ∙ round-first n b (at row) (0 + k) (omega arith) (omega arith)) in
    let middle =
    slid-on first high (omega arith) (omega arith) c.slide-s-2.ensures
    (λ k l. ap₂ ◌-ℤ◌ (part-place row (n - both) (n - (n - both)) k (low + k + b) (omega arith) (omega arith)) (part-place row 0 both k (low + k - suc b) (omega arith) (omega arith))
    ∙ round-middle n b (at row) (low + k) (omega arith) (omega arith)) in
    let last =
    slid-on middle n (omega arith) (omega arith) c.slide.ensures
    (λ k l. ap₂ ◌-ℤ◌ (part-place row 0 b k (high + k + b - n) (omega arith) (omega arith)) (part-place row both (both + b - both) k (high + k - suc b) (omega arith) (omega arith))
    ∙ round-last n b (at row) (high + k) (omega arith) (omega arith) (omega arith)) in
    round-all row b c.wrapping_add-s.result c.total.result c.total-2.result fits start c.total.ensures c.total-2.ensures c.requires.0 last
