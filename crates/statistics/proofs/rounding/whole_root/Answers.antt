-- `statistics::rounding::whole_root` meets its contract. Assumes nothing.
use Rattle.std.proofs.Common.{◌≡◌, ℕ, suc, ◌+◌, ◌*◌, ◌/◌, ◌%◌, ◌<◌, ◌≤◌, ◌∙◌, arith}
use native.Mathlib.Nat.{div-add-mod', mod-lt, mul-le-mul_right}
use Rattle.numbers.specs.Round.{root_over}
use Rattle.numbers.proofs.Rounds.{root-over-law, root-over-unique}
use Rattle.statistics.proofs.rounding.whole_root.Goals as goal

-- the whole root of v / q, rounded down
root-of-quotient : (v q r : ℕ) → 0 < q → r * r ≤ v / q → v / q < (r + 1) * (r + 1) → r ≡ root_over v q
root-of-quotient v q r some reached passed =
    let e = div-add-mod' v q in
    let m : v % q < q = mod-lt v some in
    let lo : r * r * q ≤ v / q * q = mul-le-mul_right q reached in
    let hi : suc (v / q) * q ≤ (r + 1) * (r + 1) * q = mul-le-mul_right q (omega arith) in
    root-over-unique v q r (root_over v q) (record { reached = omega arith; largest = omega arith }) (root-over-law v q some)

pub returns : goal.returns
returns c = c.from.ensures ∙ root-of-quotient c.args.v c.args.q c.isqrt.result c.requires.some c.isqrt.ensures.square_le c.isqrt.ensures.next_square_gt
