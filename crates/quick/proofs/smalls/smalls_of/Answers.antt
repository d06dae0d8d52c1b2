-- `smalls_of` meets its contract. Assumes nothing.
use Rattle.quick.specs.Smalls.{smalls_of}
use Rattle.quick.proofs.smalls.smalls_of.Goals as goal

pub returns : goal.returns
unfolding smalls_of
returns c = rw (c.byte_of.ensures, c.byte_of-2.ensures)
