-- `words::value_digits` meets its contract. Assumes nothing.
use Rattle.explaining.proofs.words.value_digits.Goals as goal

pub returns : goal.returns
returns c = rw (c.choose-2.ensures, c.choose.ensures)
