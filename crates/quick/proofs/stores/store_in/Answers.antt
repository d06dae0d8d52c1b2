-- `store_in` meets its contract. Assumes nothing.
use Rattle.quick.proofs.stores.store_in.Goals as goal

pub returns : goal.returns
returns c = rw c.store.ensures
