-- `arithmetic::quotients::Reciprocal::nearest_by` meets its contract. Assumes nothing.
use borrow.Author.Rules.{rules}
use native.Mathlib.Omega.{arith}
use Rattle.std.proofs.lemmas.Int.{ints}
use Rattle.arithmetic.proofs.Reciprocals.{Dividend, high-small, high-nearest}
use Rattle.arithmetic.proofs.quotients.Reciprocal.nearest_by.Goals as goal

pub overflow_cast-result : goal.overflow_cast-result
overflow_cast-result c =
    let d : Dividend c.args.x c.args.self.of c.args.self.by = record { some = c.args.self.some; few = c.args.self.few; small = c.requires; known = c.args.self.known } in
    let small = high-small c.args.x c.ranges.x _ _ d _ _ (search rules) c.multiply-product.ensures in
    record { sfits = omega (arith, small) }

pub overflow_sub-result : goal.overflow_sub-result
overflow_sub-result c =
    let d : Dividend c.args.x c.args.self.of c.args.self.by = record { some = c.args.self.some; few = c.args.self.few; small = c.requires; known = c.args.self.known } in
    let small = high-small c.args.x c.ranges.x _ _ d _ _ (search rules) c.multiply-product.ensures in
    omega (arith, ints, small)

pub returns : goal.returns
returns c =
    let d : Dividend c.args.x c.args.self.of c.args.self.by = record { some = c.args.self.some; few = c.args.self.few; small = c.requires; known = c.args.self.known } in
    high-nearest c.args.x c.ranges.x _ _ d _ _ (search rules) c.multiply-product.ensures
