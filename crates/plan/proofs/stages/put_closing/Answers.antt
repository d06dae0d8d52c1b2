-- `put_closing` meets its contract. Assumes nothing.
use Rattle.roads.specs.Plan.{closing}
use Rattle.roads.specs.RoadRecords.{selecting, along}
use Rattle.roads.specs.Roads.{closing_roads}
use Rattle.plan.proofs.Appending.{append-then, room-behind}
use Rattle.plan.proofs.stages.put_closing.Goals as goal

pub put_registers-requires : goal.put_registers-requires
unfolding closing_roads along selecting
put_registers-requires c = rw c.closing_rows-rows.ensures (room-behind 4 c.put_pointer-at.ensures c.requires)

pub returns : goal.returns
unfolding closing
returns c =
    append-then c.put_pointer-at.ensures (rw c.closing_rows-rows.ensures at c.put_registers.ensures)
