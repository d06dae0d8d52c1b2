-- `palette_state` meets its contract. Assumes nothing.
use Rattle.access.specs.Access.{shown_state}
use Rattle.access.proofs.engine.palette_state.Goals as goal

pub returns : goal.returns
unfolding shown_state
returns c = c.store.ensures
