-- `parts::toggle_words` meets its contract. Assumes nothing.
use Rattle.file.specs.Readers.{ascii}
use Rattle.explaining.specs.Explained.{toggle_words}
use Rattle.explaining.proofs.parts.toggle_words.Goals as goal

pub returns : goal.returns
unfolding toggle_words ascii
returns c = rw (c.phrase.ensures, c.choose.ensures, c.say-2.ensures, c.say.ensures)
