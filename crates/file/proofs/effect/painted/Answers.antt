-- `painted` meets its contract; beyond the last entry nothing is stored. Assumes nothing.
use Prim.Native.Nat.{◌≤◌}
use native.Mathlib.Omega.{arith}
use lib.ListN.{length}
use lib.Seq.{set_out}
use Rattle.file.specs.File.{with_palette, with_bank}
use Rattle.file.specs.Effects.{paint_in}
use Rattle.file.proofs.Typed.{palette-count, bank-count}
use Rattle.file.proofs.effect.painted.Goals as goal

pub returns-then-entry-lt-BANK : goal.returns-then-entry-lt-BANK
unfolding paint_in with_bank
returns-then-entry-lt-BANK c = rw c.if-bank.true

pub returns-else-entry-lt-BANK : goal.returns-else-entry-lt-BANK
unfolding paint_in with_bank
returns-else-entry-lt-BANK c = let beyond : length c.args.file.bank ≤ c.args.entry =
    omega (arith, bank-count c.args.file _ c.well_formed.0, c.if-entry-lt-BANK.false) in
    rw (c.if-bank.true, set_out)

pub returns-then-entry-lt-PALETTE : goal.returns-then-entry-lt-PALETTE
unfolding paint_in with_palette
returns-then-entry-lt-PALETTE c = rw c.if-bank.false

pub returns-else-entry-lt-PALETTE : goal.returns-else-entry-lt-PALETTE
unfolding paint_in with_palette
returns-else-entry-lt-PALETTE c = let beyond : length c.args.file.palette ≤ c.args.entry =
    omega (arith, palette-count c.args.file _ c.well_formed.0, c.if-entry-lt-PALETTE.false) in
    rw (c.if-bank.false, set_out)
