-- `put_short_colours` meets its contract. Assumes nothing.
use Prim.Native.Nat.{◌+◌}
use mathlib.Core.Bool.{true}
use native.Mathlib.Omega.{arith}
use lib.ListN.{length, length-set}
use mathlib.Core.Path.{sym, ◌∙◌}
use Rattle.roads.specs.Plan.{open_bank}
use Rattle.touched.proofs.SetIsSet.{is-set}
use Rattle.short_roads.specs.ShortPlan.{bank_named, last_entry}
use Rattle.plan.specs.EngineEntries.{entries_named}
use Rattle.plan.proofs.Appending.{append-then, room-behind}
use Rattle.plan.proofs.NamedEntries.{short-parts, short-room}
use Rattle.plan.proofs.short_stages.put_short_colours.Goals as goal

pub put_entries_named-at-requires : goal.put_entries_named-at-requires
put_entries_named-at-requires c =
    let set = is-set c.args.set _ c.well_formed.0 in
    record {
      marks = (set.palette ∙ sym c.told-palette, omega (arith, c.told-palette));
      room = omega (arith, short-room c.args.set c.args.palette.now c.args.bank.now, c.requires);
    }

pub mmio_write-at-requires : goal.mmio_write-at-requires
mmio_write-at-requires c =
    room-behind 1 c.put_entries_named-at.ensures (omega (arith, short-room c.args.set c.args.palette.now c.args.bank.now, c.requires))

pub put_entries_named-requires : goal.put_entries_named-requires
unfolding bank_named last_entry
put_entries_named-requires c =
    let set = is-set c.args.set _ c.well_formed.0 in
    let left = length (entries_named true 0 (bank_named c.args.set) c.args.bank.now) in
    record {
      marks = (simp length-set (set.bank ∙ sym c.told-bank), omega (arith, c.told-bank));
      room = room-behind left c.mmio_write-at.ensures
          (room-behind (1 + left) c.put_entries_named-at.ensures (omega (arith, short-room c.args.set c.args.palette.now c.args.bank.now, c.requires)));
    }

pub returns : goal.returns
unfolding open_bank bank_named last_entry
returns c =
    rw (short-parts c.args.set c.args.palette.now c.args.bank.now)
    (append-then c.put_entries_named-at.ensures (append-then c.mmio_write-at.ensures c.put_entries_named.ensures))
