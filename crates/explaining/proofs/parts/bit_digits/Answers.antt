-- `parts::bit_digits` meets its contract. Assumes nothing.
use Rattle.explaining.specs.Explained.{bit_digits}
use Rattle.explaining.proofs.parts.bit_digits.Goals as goal

pub returns : goal.returns
unfolding bit_digits
returns c = rw c.choose.ensures
