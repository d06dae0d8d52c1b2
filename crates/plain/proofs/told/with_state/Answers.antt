-- `with_state` meets its contract. Assumes nothing.
use mathlib.Core.Path.{refl}
use Rattle.file.specs.File.{with_state}
use Rattle.plain.proofs.told.with_state.Goals as goal

pub returns : goal.returns
unfolding with_state
returns c = refl
