-- `closing_rows` meets its contract. Assumes nothing.
use mathlib.Core.Path.{refl}
use Rattle.plan.specs.EngineRows.{index_by, road_of}
use Rattle.roads.specs.Roads.{closing_roads}
use Rattle.plan.proofs.rows.closing_rows.Goals as goal

pub returns : goal.returns
unfolding road_of index_by closing_roads
returns c = refl
