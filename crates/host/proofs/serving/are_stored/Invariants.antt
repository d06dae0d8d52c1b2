-- `are_stored` meets its contract. Invariant: the stray bits so far and the registers that are left decide. Assumes nothing.
use Rattle.std.proofs.Common.{◌≡◌, ◌&&◌, length}
use lib.Dec.{eqb}
use Rattle.file.specs.Registers.{stored_table}
use Rattle.file.specs.Sound.{all_within}
use Rattle.host.proofs.serving.are_stored.Given as goal

abbrev pub invariant-loop-stored : goal.invariant-loop-stored
invariant-loop-stored l =
    ((eqb l.stray 0 && all_within l.stored-iterator.a.rest.now l.stored-iterator.b.rest.now) ≡ all_within (stored_table l.fn.chip) l.fn.registers)
    × (length l.stored-iterator.a.rest.now ≡ length l.stored-iterator.b.rest.now)
