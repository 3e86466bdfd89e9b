-- `table::corners::sum_round` meets its contract. Assumes nothing.
use Rattle.table.proofs.Rectangles.{goes-round}
use Rattle.table.proofs.corners.sum_round.Goals as goal

pub by_shape-requires : goal.by_shape-requires
by_shape-requires c = (goes-round _ _ _ c.requires.2, c.requires.3)
