-- `record_by` meets its contract. Assumes nothing.
use mathlib.Core.Path.{refl}
use Rattle.quick.specs.Slots.{by_the_key}
use Rattle.trace.proofs.wire.record_by.Goals as goal

pub returns : goal.returns
unfolding by_the_key
returns c = refl
