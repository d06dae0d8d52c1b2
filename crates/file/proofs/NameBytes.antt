-- How long a register's name may be: one computed test. Assumes nothing.
use Prim.Native.Nat.{ℕ, ◌≤◌}
use mathlib.Core.Path.{◌≡◌, refl}
use mathlib.Core.List.{[]}
use native.Mathlib.Omega.{arith}
use borrow.Author.Tests.{ltb-true, ltb-false}
use lib.Dec.{T, leb, leb→le, ltb}
use lib.ListN.{get_or, length, get_or-eq_default}
use Rattle.bits.proofs.Test.{by-test, every_below, below}
use Rattle.file.specs.Readers.{ascii, name_table}
use Rattle.file.specs.Registers.{register_count, registers}

-- each register has a name
pub names-counted : length name_table ≡ register_count
unfolding name_table registers
names-counted = refl

all-short : T (every_below (λ (k : ℕ). leb (length (get_or name_table k [])) 10) register_count)
unfolding every_below name_table registers ascii
all-short = tt

-- a name has ten bytes at most
pub name-short : (number : ℕ) → length (get_or name_table number []) ≤ 10
name-short number =
    by-test (ltb number register_count)
    (λ e. leb→le _ 10 (below (λ (k : ℕ). leb (length (get_or name_table k [])) 10) register_count all-short number (ltb-true number register_count e)))
    (λ e. rw (get_or-eq_default name_table [] {n = number} (rw names-counted (ltb-false number register_count e))) (omega arith))
