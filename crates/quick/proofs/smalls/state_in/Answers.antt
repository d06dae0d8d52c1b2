-- `state_in` meets its contract. Assumes nothing.
use mathlib.Core.Path.{refl}
use Rattle.quick.specs.Smalls.{state_of}
use Rattle.quick.proofs.smalls.state_in.Goals as goal

pub returns : goal.returns
unfolding state_of
returns c = refl
