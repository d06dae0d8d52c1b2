-- `words::equals_word` meets its contract. Assumes nothing.
use Rattle.file.specs.Readers.{ascii}
use Rattle.explaining.specs.Words.{equals_word}
use Rattle.explaining.proofs.words.equals_word.Goals as goal

pub returns : goal.returns
unfolding equals_word ascii
returns c = rw (c.choose.ensures, c.none.ensures, c.say.ensures, c.has_value.ensures)
