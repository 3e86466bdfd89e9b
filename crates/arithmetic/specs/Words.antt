-- The number that words of 64 bits stand for.
-- Assumes nothing.
use Rattle.std.specs.Prelude.{ℕ, ◌+◌, ◌*◌, ◌^◌}
use Rattle.arithmetic.specs.declared.long_product.Product.{Product}
use Rattle.arithmetic.specs.declared.long_product.Scaled.{Scaled}

abbrev pub value : Product → ℕ
value x = x.high * 2 ^ 64 + x.low

abbrev pub scaled_value : Scaled → ℕ
scaled_value x = (x.top * 2 ^ 64 + x.middle) * 2 ^ 64 + x.low
