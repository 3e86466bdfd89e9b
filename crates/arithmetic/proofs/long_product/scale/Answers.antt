-- `arithmetic::long_product::scale` meets its contract. Assumes nothing.
use Rattle.std.proofs.Common.{arith}
use Rattle.arithmetic.proofs.long_product.scale.Goals as goal

pub returns : goal.returns
returns c =
    let low = rw c.from-factor.ensures at c.carrying_mul-low.ensures in
    let middle = rw c.from-factor.ensures at c.carrying_mul-middle.ensures in
    omega (arith, low, middle)
