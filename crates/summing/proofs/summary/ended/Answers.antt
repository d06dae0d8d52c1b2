-- `summary::ended` meets its contract. Assumes nothing.
use mathlib.Core.Path.{refl}
use Rattle.summing.specs.Summed.{ended}
use Rattle.summing.proofs.summary.ended.Goals as goal

pub returns : goal.returns
unfolding ended
returns c = refl
