-- `begin` meets its contract. Assumes nothing.
use mathlib.Core.Path.{refl}
use Rattle.hex_text.specs.Machine.{begun}
use Rattle.hex_text.proofs.state.begin.Goals as goal

pub returns : goal.returns
unfolding begun
returns c = refl
