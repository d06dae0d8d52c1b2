-- `stored` meets its contract; beyond the last register nothing is stored. Assumes nothing.
use Prim.Native.Nat.{◌≤◌}
use native.Mathlib.Omega.{arith}
use lib.ListN.{length}
use lib.Seq.{set_out}
use Rattle.file.specs.File.{register, with_registers}
use Rattle.file.specs.Effects.{store_in}
use Rattle.file.proofs.Typed.{registers-count}
use Rattle.file.proofs.effect.stored.Goals as goal

pub returns-then-number-lt-REGISTERS : goal.returns-then-number-lt-REGISTERS
unfolding store_in with_registers register
returns-then-number-lt-REGISTERS c = rw c.store.ensures

pub returns-else-number-lt-REGISTERS : goal.returns-else-number-lt-REGISTERS
unfolding store_in with_registers register
returns-else-number-lt-REGISTERS c = let beyond : length c.args.file.registers ≤ c.args.number =
    omega (arith, registers-count c.args.file _ c.well_formed.0, c.if-number-lt-REGISTERS.false) in
    rw set_out
