-- `put_named_registers` meets its contract: with the rest of the rows appended, the buffer holds all that are named. Assumes nothing.
use mathlib.Core.List.{map}
use lib.ListN.{drop}
use Rattle.plan.specs.EngineRows.{road_of}
use Rattle.roads.specs.RoadRecords.{along}
use Rattle.short_roads.specs.ShortPlan.{named_roads}
use Rattle.plan.proofs.Appending.{Left}
use Rattle.plan.proofs.short_stages.put_named_registers.Given as goal

abbrev pub invariant-loop-row : goal.invariant-loop-row
invariant-loop-row l =
    Left l.initial.buffer l.initial.at (along l.registers (named_roads l.named (map road_of l.rows))) l.buffer l.at
    (along l.registers (named_roads l.named (map road_of (drop l.row-index l.rows))))
