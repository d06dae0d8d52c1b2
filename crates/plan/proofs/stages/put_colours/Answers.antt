-- `put_colours` meets its contract. Assumes nothing.
use Prim.Native.Nat.{◌+◌}
use native.Mathlib.Omega.{arith}
use lib.ListN.{length}
use Rattle.roads.specs.Plan.{open_bank, entries, colours}
use Rattle.plan.proofs.Appending.{append-then, room-behind}
use Rattle.roads.proofs.PlanCount.{colours-parts}
use Rattle.plan.proofs.stages.put_colours.Goals as goal

pub put_entries-at-requires : goal.put_entries-at-requires
put_entries-at-requires c = let args = c.args in omega (arith, colours-parts args.palette.now args.bank.now)

pub mmio_write-at-requires : goal.mmio_write-at-requires
mmio_write-at-requires c =
    let args = c.args in
    room-behind 1 c.put_entries-at.ensures (omega (arith, colours-parts args.palette.now args.bank.now, c.requires))

pub put_entries-requires : goal.put_entries-requires
put_entries-requires c =
    let args = c.args in
    let left = length (entries 0 args.bank.now) in
    room-behind left c.mmio_write-at.ensures
    (room-behind (1 + left) c.put_entries-at.ensures (omega (arith, colours-parts args.palette.now args.bank.now, c.requires)))

pub returns : goal.returns
unfolding colours open_bank
returns c = append-then c.put_entries-at.ensures (append-then c.mmio_write-at.ensures c.put_entries.ensures)
