-- `mmio_cell` meets its contract. Assumes nothing.
use borrow.Author.Tests.{le-leb, lt-leb, le-ltb, lt-ltb}
use Rattle.places.specs.EngineCells.{mmio_cell}
use Rattle.places.proofs.decode.mmio_cell.Goals as goal

pub returns-then-at-lt-MMIO : goal.returns-then-at-lt-MMIO
unfolding mmio_cell
returns-then-at-lt-MMIO c = simp (lt-ltb _ _ c.if-at-lt-MMIO.true)

pub returns-then-at-lt-CONFIG_IN_MMIO : goal.returns-then-at-lt-CONFIG_IN_MMIO
unfolding mmio_cell
returns-then-at-lt-CONFIG_IN_MMIO c = simp (le-ltb _ _ c.if-at-lt-MMIO.false, lt-leb _ _ c.if-at-lt-CONFIG_IN_MMIO.true) c.csl_cell.ensures

pub returns : goal.returns
unfolding mmio_cell
returns c = simp (le-ltb _ _ c.if-at-lt-MMIO.false, le-leb _ _ c.if-at-lt-CONFIG_IN_MMIO.false) c.config_cell.ensures
