-- `csl_cell` meets its contract. Assumes nothing.
use borrow.Author.Tests.{le-leb, lt-leb, le-ltb, lt-ltb}
use Rattle.places.specs.EngineCells.{csl_cell}
use Rattle.places.proofs.decode.csl_cell.Goals as goal

pub returns-then-at-lt-CSL_ADDRESS : goal.returns-then-at-lt-CSL_ADDRESS
unfolding csl_cell
returns-then-at-lt-CSL_ADDRESS c = simp (lt-leb _ _ c.if-at-lt-CSL_ADDRESS.true)

pub returns-then-at : goal.returns-then-at
unfolding csl_cell
returns-then-at c = simp (le-leb _ _ c.if-at-lt-CSL_ADDRESS.false, le-ltb _ _ c.if-at.true)

pub returns-then-write : goal.returns-then-write
unfolding csl_cell
returns-then-write c = simp (le-leb _ _ c.if-at-lt-CSL_ADDRESS.false, lt-ltb _ _ c.if-at.false, c.if-write.true)

pub returns-else-write : goal.returns-else-write
unfolding csl_cell
returns-else-write c = simp (le-leb _ _ c.if-at-lt-CSL_ADDRESS.false, lt-ltb _ _ c.if-at.false, c.if-write.false)
