use mathlib.Core.List.{[], ◌∷◌, map}
use Prim.Native.Nat.{◌+◌}
use lib.ListN.{get_or, drop}
use Rattle.plan.specs.EngineRows.{road_of}
use Rattle.roads.specs.RoadRecords.{along}
use Rattle.short_roads.specs.ShortPlan.{named_roads}
use Rattle.plan.proofs.Appending.{all_left, less-left, room-left}
use Rattle.plan.proofs.NamedRows.{next-named-left, no-named-left}
use Rattle.plan.proofs.short_stages.put_named_registers.Goals as goal

pub loop-row-init : goal.loop-row-init
loop-row-init c =
    let args = c.args in
    all_left args.buffer.now args.at (along args.registers.now (named_roads args.named.now (map road_of args.rows.now)))

pub put_if_named-at-requires : goal.put_if_named-at-requires
put_if_named-at-requires c =
    let rows = c.args.rows.now in
    let w = c.args.registers.now in
    let named = c.args.named.now in
    let i = c.loop-row.row-index in
    room-left (along w (named_roads named (road_of (get_or rows i 0) ∷ []))) (along w (named_roads named (map road_of (drop (i + 1) rows))))
    (next-named-left w named rows i c.loop-row-test.true c.loop-row.invariant) c.requires

pub loop-row-preserved : goal.loop-row-preserved
loop-row-preserved c =
    less-left (next-named-left c.args.registers.now c.args.named.now c.args.rows.now c.loop-row.row-index c.loop-row-test.true c.loop-row.invariant)
    c.put_if_named-at.ensures

pub returns : goal.returns
returns c =
    no-named-left c.args.registers.now c.args.named.now c.args.rows.now c.loop-row.row-index c.loop-row-test.false c.loop-row.invariant
