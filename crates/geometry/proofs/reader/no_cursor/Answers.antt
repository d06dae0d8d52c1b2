-- `reader::no_cursor` meets its contract. Assumes nothing.
use mathlib.Core.Path.{refl}
use Rattle.geometry.specs.Geometry.{no_cursor}
use Rattle.geometry.proofs.reader.no_cursor.Goals as goal

pub returns : goal.returns
unfolding no_cursor
returns c = refl
