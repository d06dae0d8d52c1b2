-- `put_opening` meets its contract. Assumes nothing.
use Rattle.roads.specs.Plan.{open_spaces, open_lock, open_palette, open_sync, opening}
use Rattle.roads.specs.Roads.{by_half}
use Rattle.plan.proofs.Appending.{append-then}
use Rattle.plan.proofs.stages.put_opening.Goals as goal

pub returns : goal.returns
unfolding opening open_spaces open_lock open_palette open_sync by_half
returns c =
    let misc = c.held-misc.ensures in
    append-then
    (append-then
    (append-then (append-then (append-then c.config_write-at.ensures c.mmio_write-at.ensures) (rw misc at c.mmio_write-at-2.ensures))
    c.mmio_write-at-3.ensures)
    c.mmio_write-at-4.ensures)
    (rw (c.by_half.ensures, misc) at c.port_read.ensures)
