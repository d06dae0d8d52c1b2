-- `put_plan` meets its contract. Assumes nothing.
use Prim.Native.Nat.{◌+◌}
use native.Mathlib.Omega.{arith}
use lib.ListN.{length}
use Rattle.roads.specs.Plan.{opening, colours, marking, indices, plan_records}
use Rattle.roads.specs.RoadRecords.{selecting, along}
use Rattle.roads.specs.Roads.{register_roads, index_roads}
use Rattle.plan.proofs.Appending.{append-then, room-behind}
use Rattle.roads.proofs.PlanCount.{plan-parts}
use Rattle.plan.proofs.planning.put_plan.Goals as goal

pub put_opening-at-requires : goal.put_opening-at-requires
put_opening-at-requires c = omega (arith, plan-parts c.args.wanted, c.requires)

pub put_colours-at-requires : goal.put_colours-at-requires
unfolding opening
put_colours-at-requires c =
    let w = c.args.wanted in
    room-behind (length (colours w.palette w.bank)) c.put_opening-at.ensures (omega (arith, plan-parts w, c.requires))

pub put_marks-at-requires : goal.put_marks-at-requires
unfolding opening
put_marks-at-requires c =
    let w = c.args.wanted in
    room-behind 3 c.put_colours-at.ensures
    (room-behind (length (colours w.palette w.bank) + 3) c.put_opening-at.ensures (omega (arith, plan-parts w, c.requires)))

pub put_registers-at-requires : goal.put_registers-at-requires
unfolding opening
put_registers-at-requires c =
    let w = c.args.wanted in
    let own = length (along w.registers register_roads) in
    let marks = length (marking w.state.marks) in
    rw c.register_rows-rows.ensures
    (room-behind own c.put_marks-at.ensures
    (room-behind (marks + own) c.put_colours-at.ensures
    (room-behind (length (colours w.palette w.bank) + (marks + own)) c.put_opening-at.ensures (omega (arith, plan-parts w, c.requires)))))

pub put_indices-at-requires : goal.put_indices-at-requires
unfolding opening
put_indices-at-requires c =
    let w = c.args.wanted in
    let before = length (along w.registers register_roads) in
    let marks = length (marking w.state.marks) in
    room-behind 5 (rw c.register_rows-rows.ensures at c.put_registers-at.ensures)
    (room-behind (before + 5) c.put_marks-at.ensures
    (room-behind (marks + (before + 5)) c.put_colours-at.ensures
    (room-behind (length (colours w.palette w.bank) + (marks + (before + 5))) c.put_opening-at.ensures (omega (arith, plan-parts w, c.requires)))))

pub put_closing-requires : goal.put_closing-requires
unfolding opening indices index_roads along selecting
put_closing-requires c =
    let w = c.args.wanted in
    let before = length (along w.registers register_roads) in
    let marks = length (marking w.state.marks) in
    room-behind 5 c.put_indices-at.ensures
    (room-behind 10 (rw c.register_rows-rows.ensures at c.put_registers-at.ensures)
    (room-behind (before + 10) c.put_marks-at.ensures
    (room-behind (marks + (before + 10)) c.put_colours-at.ensures
    (room-behind (length (colours w.palette w.bank) + (marks + (before + 10))) c.put_opening-at.ensures (omega (arith, plan-parts w, c.requires))))))

pub returns : goal.returns
unfolding plan_records
returns c =
    append-then
    (append-then
    (append-then (append-then (append-then c.put_opening-at.ensures c.put_colours-at.ensures) c.put_marks-at.ensures)
    (rw c.register_rows-rows.ensures at c.put_registers-at.ensures))
    c.put_indices-at.ensures)
    c.put_closing.ensures
