-- `put_register` meets its contract. Assumes nothing.
use native.Mathlib.Omega.{arith}
use lib.ListN.{length-append}
use Rattle.plan.specs.EngineRows.{road_of}
use Rattle.roads.specs.RoadRecords.{along}
use Rattle.plan.proofs.Appending.{append-then}
use Rattle.plan.proofs.rows.put_register.Goals as goal

pub put_index-at-requires : goal.put_index-at-requires
unfolding along road_of
put_index-at-requires c = omega (arith, rw length-append at c.requires)

pub put-requires : goal.put-requires
unfolding along road_of
put-requires c =
    omega (arith, rw length-append at c.requires, c.put_index-at.ensures.place)

pub returns : goal.returns
unfolding along road_of
returns c =
    let put = rw c.held.ensures at c.put.ensures in
    append-then c.put_index-at.ensures put
