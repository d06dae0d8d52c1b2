-- `config_cell` meets its contract. Assumes nothing.
use borrow.Author.Tests.{le-ltb, lt-ltb}
use Rattle.places.specs.EngineCells.{config_cell}
use Rattle.places.proofs.decode.config_cell.Goals as goal

pub returns-then-at-lt-CONFIG : goal.returns-then-at-lt-CONFIG
unfolding config_cell
returns-then-at-lt-CONFIG c = simp (lt-ltb _ _ c.if-at-lt-CONFIG.true)

pub returns-else-at-lt-CONFIG : goal.returns-else-at-lt-CONFIG
unfolding config_cell
returns-else-at-lt-CONFIG c = simp (le-ltb _ _ c.if-at-lt-CONFIG.false)
