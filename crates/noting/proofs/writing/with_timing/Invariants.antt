-- `with_timing` meets its contract: the numbers that are left, marked, give the whole. Assumes nothing.
use mathlib.Core.Path.{◌≡◌}
use lib.ListN.{drop}
use Rattle.touched.proofs.MarkedRegisters.{set_all}
use Rattle.noting.proofs.writing.with_timing.Given as goal

abbrev pub invariant-loop-number : goal.invariant-loop-number
invariant-loop-number l = set_all (drop l.number-index l.number-items) l.registers ≡ set_all l.number-items l.initial.registers
