-- `statistics::correlation::coefficient` meets its contract. Assumes nothing.
use borrow.Author.Rules.{rules}
use Rattle.statistics.proofs.Largest.{empty-answer, flat-answer, correlated, product-fits, value-answer}
use Rattle.statistics.proofs.correlation.coefficient.Goals as goal

pub returns-in_default : goal.returns-in_default
returns-in_default c = empty-answer c.args.z (rw c.in_default.is at c.in_ok-m.ensures)

pub returns-then-m-eq0 : goal.returns-then-m-eq0
returns-then-m-eq0 c = flat-answer c.args.z _ (rw c.in-Some.is at c.in_ok-m.ensures) c.then-m-eq0.either

pub long_root-largest-requires : goal.long_root-largest-requires
long_root-largest-requires c =
    correlated c.args.z _ (rw c.in-Some.is at c.in_ok-m.ensures) c.if-m-eq0.false c.if-m-eq0-2.false _ c.multiply-2.ensures _ _ _ (search rules) c.magnitude-size.ensures c.multiply.ensures c.scale.ensures

pub overflow_mul-result : goal.overflow_mul-result
overflow_mul-result c =
    product-fits c.args.z _ (rw c.in-Some.is at c.in_ok-m.ensures) c.if-m-eq0.false c.if-m-eq0-2.false _ c.multiply-2.ensures _ _ _ (search rules) c.magnitude-size.ensures c.multiply.ensures c.scale.ensures
    _ c.long_root-largest.ensures _ c.from.ensures _ (search rules) c.signum.ensures.value

pub returns : goal.returns
returns c =
    value-answer c.args.z _ (rw c.in-Some.is at c.in_ok-m.ensures) c.if-m-eq0.false c.if-m-eq0-2.false _ c.multiply-2.ensures _ _ _ (search rules) c.magnitude-size.ensures c.multiply.ensures c.scale.ensures
    _ c.long_root-largest.ensures _ c.from.ensures _ (search rules) c.signum.ensures.value
