-- What a register holds in a sound file. Assumes nothing.
use Prim.Native.Nat.{ℕ, ◌<◌}
use native.Mathlib.Omega.{arith}
use lib.Dec.{T, ltb, ltb→lt}
use lib.ListN.{get_or}
use Rattle.file.specs.declared.registers.File.{File}
use Rattle.file.specs.Registers.{stored_bits}
use Rattle.file.specs.Sound.{sound}
use Rattle.file.proofs.Soundness.{at_most, registers-sound}

-- less than any bound of its stored bits
pub stored-below : (f : File) (number bound : ℕ) → T (ltb (stored_bits f.state.chip number) bound) → T (sound f)
    → get_or f.registers number 0 < bound
stored-below f number bound w s =
    omega (arith, at_most f.state.chip f.registers number (registers-sound f s), ltb→lt (stored_bits f.state.chip number) bound w)
