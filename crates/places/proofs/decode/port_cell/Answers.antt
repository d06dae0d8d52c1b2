-- `port_cell` meets its contract. Assumes nothing.
use borrow.Author.Tests.{le-leb, lt-leb, le-ltb, lt-ltb}
use Rattle.places.specs.EngineCells.{port_cell}
use mathlib.Core.Path.{ap}
use native.Mathlib.Omega.{arith}
use lib.ListN.{get_or}
use Rattle.places.proofs.decode.port_cell.Goals as goal

pub returns-then-at-lt-FIRST_PORT : goal.returns-then-at-lt-FIRST_PORT
unfolding port_cell
returns-then-at-lt-FIRST_PORT c = simp (lt-leb _ _ c.if-at-lt-FIRST_PORT.true)

pub returns-then-at : goal.returns-then-at
unfolding port_cell
returns-then-at c = simp (le-leb _ _ c.if-at-lt-FIRST_PORT.false, le-ltb _ _ c.if-at.true)

pub returns-then-write : goal.returns-then-write
unfolding port_cell
returns-then-write c = simp (le-leb _ _ c.if-at-lt-FIRST_PORT.false, lt-ltb _ _ c.if-at.false, c.if-write.true)

pub returns-else-write : goal.returns-else-write
unfolding port_cell
returns-else-write c = simp (le-leb _ _ c.if-at-lt-FIRST_PORT.false, lt-ltb _ _ c.if-at.false, c.if-write.false) (ap (λ n. get_or c.args.cells.now n 0) (omega arith))
