-- `is_space_off` meets its contract. Assumes nothing.
use native.Mathlib.Omega.{arith}
use Rattle.access.specs.Checks.{space_off, is_port, is_mmio}
use Rattle.file.specs.File.{seen, register}
use Rattle.bits.specs.Store.{bit}
use Rattle.access.proofs.engine.is_space_off.Goals as goal

pub returns-in-1 : goal.returns-in-1
unfolding space_off is_port is_mmio bit seen register
returns-in-1 c = grind arith

pub returns-in-2 : goal.returns-in-2
unfolding space_off is_port is_mmio bit seen register
returns-in-2 c = grind arith

pub returns-in_default : goal.returns-in_default
unfolding space_off is_port is_mmio bit seen register
returns-in_default c = grind arith
