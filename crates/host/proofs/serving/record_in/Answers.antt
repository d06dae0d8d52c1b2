-- `record_in` meets its contract. Assumes nothing.
use mathlib.Core.Path.{refl}
use Rattle.host.specs.Numbers.{record_in}
use Rattle.host.proofs.serving.record_in.Goals as goal

pub returns : goal.returns
unfolding record_in
returns c = refl
