-- `is_other_half` meets its contract. Assumes nothing.
use native.Mathlib.Omega.{arith}
use Rattle.bits.specs.Store.{bit}
use Rattle.file.specs.File.{register}
use Rattle.places.specs.Lookup.{is_one_of}
use Rattle.access.specs.Checks.{of_other_half, is_port}
use Rattle.plain.proofs.checks.is_other_half.Goals as goal

pub returns-in-948 : goal.returns-in-948
unfolding of_other_half is_port is_one_of bit register
returns-in-948 c = grind arith

pub returns-in-980 : goal.returns-in-980
unfolding of_other_half is_port is_one_of bit register
returns-in-980 c = grind arith

pub returns-in_default : goal.returns-in_default
unfolding of_other_half is_port is_one_of bit register
returns-in_default c = grind arith

pub returns-in_default-2 : goal.returns-in_default-2
unfolding of_other_half is_port is_one_of bit register
returns-in_default-2 c = grind arith

pub returns-in_default-3 : goal.returns-in_default-3
unfolding of_other_half is_port is_one_of bit register
returns-in_default-3 c = grind arith

pub returns-else-asked-eq1 : goal.returns-else-asked-eq1
unfolding of_other_half is_port is_one_of bit register
returns-else-asked-eq1 c = grind arith
