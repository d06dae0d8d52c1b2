-- `put_registers` meets its contract: with the rest of the rows appended, the buffer holds them all. Assumes nothing.
use mathlib.Core.List.{map}
use lib.ListN.{drop}
use Rattle.plan.specs.EngineRows.{road_of}
use Rattle.roads.specs.RoadRecords.{along}
use Rattle.plan.proofs.Appending.{Left}
use Rattle.plan.proofs.rows.put_registers.Given as goal

abbrev pub invariant-loop-row : goal.invariant-loop-row
invariant-loop-row l =
    Left l.initial.buffer l.initial.at (along l.registers (map road_of l.rows)) l.buffer l.at (along l.registers (map road_of (drop l.row-index l.rows)))
