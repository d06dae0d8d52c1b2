-- `meaning::register_of` meets its contract. Assumes nothing.
use mathlib.Core.Path.{refl, sym}
use native.Mathlib.Omega.{arith}
use lib.ListN.{get_or-eq_default}
use Rattle.file.specs.File.{register}
use Rattle.file.proofs.Typed.{registers-count}
use Rattle.explaining.proofs.meaning.register_of.Goals as goal

pub returns-then-number-lt-REGISTERS : goal.returns-then-number-lt-REGISTERS
unfolding register
returns-then-number-lt-REGISTERS c = refl

pub returns-else-number-lt-REGISTERS : goal.returns-else-number-lt-REGISTERS
unfolding register
returns-else-number-lt-REGISTERS c = sym (get_or-eq_default c.args.file.registers 0 {n = c.args.number} (omega (arith, registers-count c.args.file _ c.well_formed.0, c.if-number-lt-REGISTERS.false)))
