-- `is_other_row` meets its contract. Assumes nothing.
use native.Mathlib.Omega.{arith}
use Rattle.access.specs.Checks.{is_port}
use Rattle.access.specs.Engine.{other_row}
use Rattle.file.specs.File.{seen, register}
use Rattle.bits.specs.Store.{bit}
use Rattle.access.proofs.engine.is_other_row.Goals as goal

pub returns-in-1-eq59 : goal.returns-in-1-eq59
unfolding other_row is_port bit seen register
returns-in-1-eq59 c = grind arith

pub returns-in-1-eq61 : goal.returns-in-1-eq61
unfolding other_row is_port bit seen register
returns-in-1-eq61 c = grind arith

pub returns-in_default : goal.returns-in_default
unfolding other_row is_port bit seen register
returns-in_default c = grind arith

pub returns-in_default-2 : goal.returns-in_default-2
unfolding other_row is_port bit seen register
returns-in_default-2 c = grind arith
