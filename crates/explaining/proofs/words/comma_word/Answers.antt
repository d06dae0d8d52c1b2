-- `words::comma_word` meets its contract. Assumes nothing.
use Rattle.file.specs.Readers.{ascii}
use Rattle.explaining.specs.Words.{comma_word}
use Rattle.explaining.proofs.words.comma_word.Goals as goal

pub returns : goal.returns
unfolding comma_word ascii
returns c = rw (c.choose.ensures, c.none.ensures, c.say.ensures, c.has_width.ensures)
