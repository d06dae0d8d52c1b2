-- `words::short` meets its contract. Assumes nothing.
use Rattle.explaining.specs.Words.{short}
use Rattle.explaining.proofs.words.short.Goals as goal

pub returns : goal.returns
unfolding short
returns c = rw (c.hex.ensures, c.from.ensures, c.choose-2.ensures, c.choose.ensures)
