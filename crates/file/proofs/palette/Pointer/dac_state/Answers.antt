-- `Pointer::dac_state` meets its contract. Assumes nothing.
use Rattle.file.specs.Palette.{dac_state}
use Rattle.file.proofs.palette.Pointer.dac_state.Goals as goal

pub returns-then-self : goal.returns-then-self
unfolding dac_state
returns-then-self c = rw c.if-self.true

pub returns-else-self : goal.returns-else-self
unfolding dac_state
returns-else-self c = rw c.if-self.false
