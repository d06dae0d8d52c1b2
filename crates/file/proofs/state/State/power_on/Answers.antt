-- `power_on` meets its contract. Assumes nothing.
use Rattle.file.specs.State.{initial}
use Rattle.file.proofs.state.State.power_on.Goals as goal

pub returns : goal.returns
unfolding initial
returns c = rw c.addressed.ensures
