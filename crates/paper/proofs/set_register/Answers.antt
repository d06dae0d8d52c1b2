-- `set_register` meets its contract. Assumes nothing.
use Prim.Native.Nat.{◌≤◌}
use native.Mathlib.Omega.{arith}
use lib.ListN.{length}
use lib.Seq.{set_out}
use Rattle.file.proofs.Typed.{registers-count}
use Rattle.file.specs.Effects.{store_in}
use Rattle.file.specs.File.{register, with_registers}
use Rattle.paper.specs.Examples.{set_register}
use Rattle.paper.proofs.set_register.Goals as goal

pub returns-then-number-lt-REGISTERS : goal.returns-then-number-lt-REGISTERS
unfolding set_register store_in with_registers register
returns-then-number-lt-REGISTERS c = cc (c.store.ensures, c.stored_bits.ensures)

pub returns-else-number-lt-REGISTERS : goal.returns-else-number-lt-REGISTERS
unfolding set_register store_in with_registers register
returns-else-number-lt-REGISTERS c =
    let beyond : length c.args.file.registers ≤ c.args.number =
    omega (arith, registers-count c.args.file _ c.well_formed.0) in
    rw set_out
