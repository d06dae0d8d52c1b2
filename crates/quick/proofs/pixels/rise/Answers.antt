-- `rise` meets its contract. Assumes nothing.
use Rattle.file.specs.Palette.{addressed}
use Rattle.file.specs.State.{pointing}
use Rattle.quick.specs.Smalls.{smalls_of}
use Rattle.quick.proofs.pixels.rise.Goals as goal

pub returns : goal.returns
unfolding smalls_of pointing addressed
returns c = λ s e. rw (c.risen.ensures, e)
