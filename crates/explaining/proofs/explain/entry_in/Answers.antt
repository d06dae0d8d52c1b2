-- `explain::entry_in` meets its contract. Assumes nothing.
use mathlib.Core.Path.{sym}
use native.Mathlib.Omega.{arith}
use lib.ListN.{get_or-eq_default}
use Rattle.bits.proofs.Lists.{any-default}
use Rattle.file.specs.File.{black}
use Rattle.file.proofs.Typed.{bank-count, palette-count}
use Rattle.explaining.specs.Explained.{entry_in}
use Rattle.explaining.proofs.explain.entry_in.Goals as goal

pub returns-then-entry-lt-BANK : goal.returns-then-entry-lt-BANK
unfolding entry_in
returns-then-entry-lt-BANK c = rw c.if-reach.true (any-default c.args.file.bank c.args.reach.entry _ black (omega (arith, c.if-entry-lt-BANK.true, bank-count c.args.file _ c.well_formed.0)))

pub returns-then-reach : goal.returns-then-reach
unfolding entry_in black
returns-then-reach c = rw c.if-reach.true (sym (get_or-eq_default c.args.file.bank black {n = c.args.reach.entry} (omega (arith, c.if-entry-lt-BANK.false, bank-count c.args.file _ c.well_formed.0))))

pub returns-then-entry-lt-PALETTE : goal.returns-then-entry-lt-PALETTE
unfolding entry_in
returns-then-entry-lt-PALETTE c = rw c.if-reach.false (any-default c.args.file.palette c.args.reach.entry _ black (omega (arith, c.if-entry-lt-PALETTE.true, palette-count c.args.file _ c.well_formed.0)))

pub returns : goal.returns
unfolding entry_in black
returns c = rw c.if-reach.false (sym (get_or-eq_default c.args.file.palette black {n = c.args.reach.entry} (omega (arith, c.if-entry-lt-PALETTE.false, palette-count c.args.file _ c.well_formed.0))))
