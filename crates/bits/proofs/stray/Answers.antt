-- `bits::stray` meets its contract. Assumes nothing.
use Rattle.bits.proofs.stray.Goals as goal

pub returns : goal.returns
returns c = rw c.store.ensures
