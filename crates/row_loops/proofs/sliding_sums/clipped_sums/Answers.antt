-- `row_loops::sliding_sums::clipped_sums` meets its contract. Assumes nothing.
use mathlib.Core.Path.{ap₂}
use Prim.Native.Nat.{◌+◌, ◌-◌}
use native.Mathlib.Omega.{arith}
use lib.IntN.{◌-ℤ◌}
use lib.ListN.{length}
use Rattle.row_loops.proofs.Sliding.{clipped-none, slid-on, clipped-all, enters-from, enters_none, leaves-from, leaves_none}
use Rattle.row_loops.proofs.sliding_sums.clipped_sums.Goals as goal

pub returns : goal.returns
returns c =
    let row = c.args.work.now in
    let b = c.args.b in
    let n = length row in
    let reach = c.min-reach.result in
    let low = c.min-low.result in
    let enters = n - reach in
    let both = enters - low in
    let high = c.max-high.result in
    let begun = clipped-none row b reach c.total-s.result (omega arith) c.total-s.ensures c.args.out.now in
    let entered =
    slid-on begun low (omega arith) (omega arith) c.slide-s.ensures
    (λ k l. ap₂ ◌-ℤ◌ (enters-from row b (0 + k) reach (reach + low - reach) k (omega arith) (omega arith) (omega arith)) (leaves_none row b (0 + k) (omega arith))) in
    let both-moved =
    slid-on entered enters (omega arith) (omega arith) c.slide-s-2.ensures
    (λ k l. ap₂ ◌-ℤ◌ (enters-from row b (low + k) (n - both) (n - (n - both)) k (omega arith) (omega arith) (omega arith)) (leaves-from row b (low + k) 0 both k (omega arith) (omega arith) (omega arith))) in
    let kept =
    slid-on both-moved high (omega arith) (omega arith) c.slide-s-3.ensures
    (λ k l. ap₂ ◌-ℤ◌ (enters_none row b (enters + k) (omega arith)) (leaves_none row b (enters + k) (omega arith))) in
    let left =
    slid-on kept n (omega arith) (omega arith) c.slide.ensures
    (λ k l. ap₂ ◌-ℤ◌ (enters_none row b (high + k) (omega arith)) (leaves-from row b (high + k) both (both + (n - high) - both) k (omega arith) (omega arith) (omega arith))) in
    clipped-all row b reach c.total-s.result (omega arith) c.total-s.ensures c.requires left
