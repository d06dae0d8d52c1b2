-- `reader::no_capture` meets its contract. Assumes nothing.
use mathlib.Core.Path.{refl}
use Rattle.geometry.specs.Geometry.{no_capture}
use Rattle.geometry.proofs.reader.no_capture.Goals as goal

pub returns : goal.returns
unfolding no_capture
returns c = refl
