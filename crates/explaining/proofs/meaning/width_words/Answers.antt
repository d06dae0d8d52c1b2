-- `meaning::width_words` meets its contract. Assumes nothing.
use Rattle.file.specs.Readers.{ascii}
use Rattle.explaining.specs.Words.{width_words}
use Rattle.explaining.proofs.meaning.width_words.Goals as goal

pub returns : goal.returns
unfolding width_words ascii
returns c = rw (c.phrase.ensures, c.choose.ensures, c.say-2.ensures, c.say.ensures)
