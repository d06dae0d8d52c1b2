-- `reader::capture_in` meets its contract. Assumes nothing.
use Rattle.file.specs.File.{register}
use Rattle.geometry.specs.Geometry.{capture_in}
use Rattle.geometry.proofs.reader.capture_in.Goals as goal

pub returns : goal.returns
unfolding capture_in register
returns c = rw c.vertical_start.ensures
