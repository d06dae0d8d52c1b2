-- `put_pixel` meets its contract. Assumes nothing.
use Rattle.roads.specs.Plan.{pixel}
use Rattle.plan.proofs.Appending.{append-then}
use Rattle.plan.proofs.stages.put_pixel.Goals as goal

pub returns : goal.returns
unfolding pixel
returns c =
    append-then
    (append-then (rw c.from.ensures at c.mmio_write-at.ensures) (rw c.from-2.ensures at c.mmio_write-at-2.ensures))
    (rw c.from-3.ensures at c.mmio_write.ensures)
