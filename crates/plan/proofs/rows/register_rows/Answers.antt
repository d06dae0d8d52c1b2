-- `register_rows` meets its contract: every row of the table is its register's road, by one computed test. Assumes nothing.
use mathlib.Core.Path.{refl}
use Rattle.plan.specs.EngineRows.{index_by, road_of}
use Rattle.roads.specs.Roads.{register_roads}
use Rattle.plan.proofs.rows.register_rows.Goals as goal

pub returns : goal.returns
unfolding road_of index_by register_roads
returns c = refl
