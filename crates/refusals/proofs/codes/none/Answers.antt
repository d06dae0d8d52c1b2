-- `codes::none` meets its contract. Assumes nothing.
use mathlib.Core.Path.{refl}
use Rattle.refusals.specs.Counted.{none_counted}
use Rattle.refusals.proofs.codes.none.Goals as goal

pub returns : goal.returns
unfolding none_counted
returns c = refl
