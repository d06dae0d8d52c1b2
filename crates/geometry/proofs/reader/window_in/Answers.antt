-- `reader::window_in` meets its contract. Assumes nothing.
use native.Mathlib.Nat.{div-one}
use Rattle.bits.specs.Store.{bit, bits}
use Rattle.file.specs.File.{register}
use Rattle.geometry.specs.Geometry.{bottom, mark, window_in}
use Rattle.geometry.proofs.reader.window_in.Goals as goal

pub returns : goal.returns
unfolding window_in bottom register mark bit bits
returns c =
    let given = c.requires in
    rw (c.is_empty.ensures, c.min-bottom.ensures, ← given.0, ← given.1) (simp div-one)
