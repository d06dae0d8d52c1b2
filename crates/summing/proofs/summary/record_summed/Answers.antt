-- `summary::record_summed` keeps a summary where one is asked for. Assumes nothing.
use mathlib.Core.Path.{refl}
use Rattle.summing.specs.Told.{record_summed}
use Rattle.summing.proofs.summary.record_summed.Goals as goal

pub returns-then-sums : goal.returns-then-sums
unfolding record_summed
returns-then-sums c = rw c.if-sums.true c.take_in.ensures

pub returns : goal.returns
unfolding record_summed
returns c = rw c.if-sums.false refl
