-- `table::corners::stretch` meets its contract. Assumes nothing.
use native.Mathlib.Omega.{arith}
use Rattle.table.proofs.Rectangles.{none-read}
use Rattle.table.proofs.corners.stretch.Goals as goal

pub returns-then-columns : goal.returns-then-columns
returns-then-columns c =
    let table = c.args.table.now in
    none-read table.frame table.numbers.now c.args.rows.start c.args.rows.end c.args.columns.start c.args.columns.end (omega arith)
