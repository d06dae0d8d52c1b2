-- `put_entry` meets its contract. Assumes nothing.
use native.Mathlib.Omega.{arith}
use borrow.Author.Tests.{not-true, not-false}
use Rattle.roads.specs.Plan.{pixel}
use Rattle.plan.specs.EngineEntries.{entry_records}
use Rattle.plan.proofs.Appending.{append-none, append-then, room-behind}
use Rattle.plan.proofs.short_stages.put_entry.Goals as goal

pub returns-then-not-named : goal.returns-then-not-named
unfolding entry_records pixel
returns-then-not-named c = rw (not-true c.args.named c.if-not-named.true-raw) (append-none c.args.buffer.now c.args.at)

pub mmio_write-at-requires : goal.mmio_write-at-requires
unfolding entry_records pixel
mmio_write-at-requires c = omega (arith, rw (not-false c.args.named c.if-not-named.false-raw, c.if-apart.true) at c.requires)

pub put_pixel-requires : goal.put_pixel-requires
unfolding entry_records pixel
put_pixel-requires c =
    room-behind 3 c.mmio_write-at.ensures (omega (arith, rw (not-false c.args.named c.if-not-named.false-raw, c.if-apart.true) at c.requires))

pub returns-then-apart : goal.returns-then-apart
unfolding entry_records pixel
returns-then-apart c = rw (not-false c.args.named c.if-not-named.false-raw, c.if-apart.true) (append-then c.mmio_write-at.ensures c.put_pixel.ensures)

pub put_pixel-requires-2 : goal.put_pixel-requires-2
unfolding entry_records pixel
put_pixel-requires-2 c = omega (arith, rw (not-false c.args.named c.if-not-named.false-raw, c.if-apart.false) at c.requires)

pub returns : goal.returns
unfolding entry_records pixel
returns c = rw (not-false c.args.named c.if-not-named.false-raw, c.if-apart.false) c.put_pixel-2.ensures
