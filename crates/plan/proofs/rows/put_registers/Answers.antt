use mathlib.Core.List.{[], ◌∷◌, map}
use Prim.Native.Nat.{◌+◌}
use lib.ListN.{get_or, drop}
use Rattle.plan.specs.EngineRows.{road_of}
use Rattle.roads.specs.RoadRecords.{along}
use Rattle.plan.proofs.Appending.{all_left, less-left, room-left}
use Rattle.plan.proofs.RowsAsRoads.{next-left, no-row-left}
use Rattle.plan.proofs.rows.put_registers.Goals as goal

pub loop-row-init : goal.loop-row-init
loop-row-init c =
    let args = c.args in
    all_left args.buffer.now args.at (along args.registers.now (map road_of args.rows.now))

pub put_register-at-requires : goal.put_register-at-requires
put_register-at-requires c =
    let rows = c.args.rows.now in
    let w = c.args.registers.now in
    let i = c.loop-row.row-index in
    room-left (along w (road_of (get_or rows i 0) ∷ [])) (along w (map road_of (drop (i + 1) rows)))
    (next-left w rows i c.loop-row-test.true c.loop-row.invariant) c.requires

pub loop-row-preserved : goal.loop-row-preserved
loop-row-preserved c =
    less-left (next-left c.args.registers.now c.args.rows.now c.loop-row.row-index c.loop-row-test.true c.loop-row.invariant) c.put_register-at.ensures

pub returns : goal.returns
returns c = no-row-left c.args.registers.now c.args.rows.now c.loop-row.row-index c.loop-row-test.false c.loop-row.invariant
