-- `codes::counting` meets its contract. Assumes nothing.
use Rattle.refusals.specs.Counted.{counting_of}
use Rattle.refusals.proofs.codes.counting.Goals as goal

pub returns : goal.returns
unfolding counting_of
returns c = λ i. record { counts = c.count_one.ensures i }
