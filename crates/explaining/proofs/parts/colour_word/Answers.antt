-- `parts::colour_word` meets its contract. Assumes nothing.
use Rattle.file.specs.Readers.{ascii}
use Rattle.explaining.specs.Explained.{colour_word}
use Rattle.explaining.proofs.parts.colour_word.Goals as goal

pub returns : goal.returns
unfolding colour_word ascii
returns c = rw (c.choose.ensures, c.say-3.ensures, c.choose-other.ensures, c.say-2.ensures, c.say.ensures)
