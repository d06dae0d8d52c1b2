-- `moves::may_move` meets its contract. Assumes nothing.
use Rattle.explaining.specs.Moves.{may_move}
use Rattle.explaining.proofs.moves.may_move.Goals as goal

pub returns : goal.returns
unfolding may_move
returns c = rw c.read_bits.ensures
