-- The cursor of a sound file: left and top lie in -127 to 4095, as 01 has it. Assumes nothing.
use Prim.Native.Nat.{ℕ, suc, ◌-◌, ◌/◌, ◌^◌, ◌<◌}
use mathlib.Core.Bool.{true}
use native.Mathlib.Nat.{mod-lt}
use native.Mathlib.Omega.{arith}
use lib.Dec.{T, leb, ltb, le→leb, lit<}
use lib.IntN.{sub_ℕ}
use Rattle.bits.specs.Store.{bits}
use Rattle.bits.proofs.Test.{both, by-test}
use Rattle.file.specs.declared.registers.File.{File}
use Rattle.file.specs.File.{register}
use Rattle.file.specs.Names.{E0, E2, E4}
use Rattle.file.specs.Registers.{stored_bits, stored_table}
use Rattle.file.specs.Sound.{sound}
use Rattle.geometry.specs.Geometry.{cursor_in, edge_in_range, cursor_in_range}
use Rattle.geometry.proofs.StoredBelow.{stored-below}

-- a number of 12 bits less one of 7
less-ranged : (edge preset : ℕ) → edge < 4096 → preset < 128 → T (edge_in_range (sub_ℕ edge preset))
unfolding edge_in_range
less-ranged edge preset he hp =
    by-test (ltb edge preset)
    (λ t. rw t (both (leb (preset - suc edge) 126) true (le→leb (preset - suc edge) 126 (omega arith)) tt))
    (λ t. rw t (le→leb (edge - preset) 4095 (omega arith)))

pub cursor-ranged : (f : File) → T (sound f) → T (cursor_in_range (cursor_in f))
unfolding cursor_in_range cursor_in register bits stored_bits stored_table
cursor-ranged f s =
    both (edge_in_range (cursor_in f).left.0) (edge_in_range (cursor_in f).top.0)
    (less-ranged (register f E0) (bits 14 8 (register f E4)) (stored-below f E0 4096 tt s) (mod-lt (register f E4 / 2 ^ 8) (lit< tt)))
    (less-ranged (register f E2) (bits 6 0 (register f E4)) (stored-below f E2 4096 tt s) (mod-lt (register f E4 / 2 ^ 0) (lit< tt)))
