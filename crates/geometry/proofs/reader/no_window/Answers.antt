-- `reader::no_window` meets its contract. Assumes nothing.
use mathlib.Core.Path.{refl}
use Rattle.geometry.specs.Geometry.{no_window}
use Rattle.geometry.proofs.reader.no_window.Goals as goal

pub returns : goal.returns
unfolding no_window
returns c = refl
