-- The capture window of a sound file: its numbers lie in the bits that 02, 6/13 has. Assumes nothing.
use Prim.Native.Nat.{ℕ, ◌≤◌, ◌<◌}
use native.Mathlib.Omega.{arith}
use lib.Dec.{T, ltb, lt→ltb, lit<}
use Rattle.bits.proofs.Test.{both}
use Rattle.file.specs.declared.chip.Chip.{Chip}
use Rattle.file.specs.declared.chip.Chip.TheVariants.{Gd5462, Gd5464}
use Rattle.file.specs.declared.registers.File.{File}
use Rattle.file.specs.File.{register}
use Rattle.file.specs.Names.{capture_xstart, capture_xstop, capture_ystart, capture_ystop}
use Rattle.file.specs.Registers.{stored_bits, stored_table}
use Rattle.file.specs.Sound.{sound}
use Rattle.file.proofs.Soundness.{at_most, registers-sound}
use Rattle.geometry.specs.declared.Capture.{Capture}
use Rattle.geometry.specs.Geometry.{are_both_below, capture_in, capture_in_range, vertical_start}
use Rattle.geometry.proofs.StoredBelow.{stored-below}

start-ranged : (chip : Chip) (stored : ℕ) → stored ≤ stored_bits chip capture_ystart → vertical_start chip stored < 512
unfolding vertical_start stored_bits stored_table
start-ranged Gd5462 stored h = lit< tt
start-ranged Gd5464 stored h = omega arith

both_below : (bound start stop : ℕ) → start < bound → stop < bound → T (are_both_below bound start stop)
unfolding are_both_below
both_below bound start stop h k = both (ltb start bound) (ltb stop bound) (lt→ltb start bound h) (lt→ltb stop bound k)

pub capture-ranged : (f : File) → T (sound f) → T (capture_in_range (capture_in f))
unfolding capture_in_range capture_in register stored_bits stored_table
capture-ranged f s =
    both (are_both_below 1024 c.xstart.0 c.xstop.0) (are_both_below 512 c.ystart.0 c.ystop.0)
    (both_below 1024 c.xstart.0 c.xstop.0 (stored-below f capture_xstart 1024 tt s) (stored-below f capture_xstop 1024 tt s))
    (both_below 512 c.ystart.0 c.ystop.0
    (start-ranged f.state.chip (register f capture_ystart) (at_most f.state.chip f.registers capture_ystart (registers-sound f s)))
    (stored-below f capture_ystop 512 tt s))
  where
    c : Capture
    c = capture_in f
