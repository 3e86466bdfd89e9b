-- `arithmetic::machine::product` meets its contract. Assumes nothing.
use mir.Facts.{to_z-of_z}
use Rattle.numbers.proofs.Widths.{product-fits}
use Rattle.arithmetic.proofs.machine.product.Goals as goal
use Rattle.std.proofs.Math.Facts.{sfits_widen}
use mir.Syntax.{w32, w64}

pub returns : goal.returns
returns c =
    let f = c.ranges.a in
    let g = c.ranges.b in
    let p = product-fits _ _ f g in
    simp (c.from-3.ensures, c.from.ensures, c.from-2.ensures, to_z-of_z, f, g, sfits_widen {w' = w32} tt f, sfits_widen {w' = w32} tt g, p, sfits_widen {w' = w64} tt p)
