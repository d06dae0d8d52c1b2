-- `width_of` meets its contract. Assumes nothing.
use borrow.Author.Tests.{le-ltb, lt-ltb}
use Rattle.places.specs.EngineCells.{cell_width}
use Rattle.places.proofs.decode.width_of.Goals as goal

pub returns-then-cell-lt-WIDER : goal.returns-then-cell-lt-WIDER
unfolding cell_width
returns-then-cell-lt-WIDER c = rw (lt-ltb _ _ c.if-cell-lt-WIDER.true)

pub returns-else-cell-lt-WIDER : goal.returns-else-cell-lt-WIDER
unfolding cell_width
returns-else-cell-lt-WIDER c = rw (le-ltb _ _ c.if-cell-lt-WIDER.false)
