-- `panel_text::panel_scan::natural` meets its contract. Assumes nothing.
use Rattle.std.proofs.Common.{◌∙◌, ◌≤◌, length, rules, tests, arith}
use Rattle.panel_text.proofs.Digits.{worth-small, worth-more, natural-outside, natural-other, natural-all}
use Rattle.panel_text.proofs.panel_scan.natural.Goals as goal

pub returns-then-not-contains-clause-value : goal.returns-then-not-contains-clause-value
returns-then-not-contains-clause-value c = natural-outside _ (search (rules, tests))

pub overflow_mul-value : goal.overflow_mul-value
overflow_mul-value c =
    let few : length c.args.run.now ≤ 9 = search (rules, tests) in
    omega (arith, worth-small _ _ _ 8 c.loop-b.invariant (omega arith))

pub returns-in_err-value-clause-value : goal.returns-in_err-value-clause-value
returns-in_err-value-clause-value c = c.from_residual.ensures ∙ natural-other _ _ _ c.loop-b.invariant c.loop-b-test.true c.in_err-value.ensures.cases

pub overflow_add-value : goal.overflow_add-value
overflow_add-value c =
    let few : length c.args.run.now ≤ 9 = search (rules, tests) in
    omega (arith, worth-small _ _ _ 8 c.loop-b.invariant (omega arith), c.in_ok-value.ensures.value.0, c.in_ok-value.ensures.value.1)

pub loop-b-preserved : goal.loop-b-preserved
loop-b-preserved c = worth-more _ _ _ c.loop-b.invariant c.loop-b-test.true _ _ c.in_ok-value.ensures.cases c.in_ok-value.ensures.value

pub returns-clause-value : goal.returns-clause-value
returns-clause-value c =
    let some : 1 ≤ length c.args.run.now = search (rules, tests) in
    let few : length c.args.run.now ≤ 9 = search (rules, tests) in
    natural-all _ _ _ some few c.loop-b.invariant c.loop-b-test.false

pub returns-clause-small : goal.returns-clause-small
returns-clause-small c =
    let few : length c.args.run.now ≤ 9 = search (rules, tests) in
    omega (arith, worth-small _ _ _ 9 c.loop-b.invariant (omega arith))
