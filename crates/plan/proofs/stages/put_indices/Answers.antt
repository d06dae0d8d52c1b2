-- `put_indices` meets its contract. Assumes nothing.
use Rattle.roads.specs.Plan.{indices}
use Rattle.roads.specs.RoadRecords.{selecting, along}
use Rattle.roads.specs.Roads.{by_half, index_roads}
use Rattle.plan.proofs.Appending.{append-then}
use Rattle.plan.proofs.stages.put_indices.Goals as goal

pub returns : goal.returns
unfolding indices along selecting index_roads by_half
returns c =
    let misc = c.held-misc.ensures in
    append-then
    (append-then
    (append-then
    (append-then (rw c.held.ensures at c.port_write-at.ensures) (rw c.held-2.ensures at c.port_write-at-2.ensures))
    (rw (c.by_half.ensures, misc, c.held-3.ensures) at c.port_write-at-3.ensures))
    (rw c.held-4.ensures at c.port_write-at-4.ensures))
    (rw misc at c.put_toggle.ensures)
