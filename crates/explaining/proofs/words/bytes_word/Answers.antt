-- `words::bytes_word` meets its contract. Assumes nothing.
use Rattle.file.specs.Readers.{ascii}
use Rattle.explaining.specs.Words.{bytes_word}
use Rattle.explaining.proofs.words.bytes_word.Goals as goal

pub returns : goal.returns
unfolding bytes_word ascii
returns c = rw (c.choose.ensures, c.none.ensures, c.has_width.ensures, c.choose-bytes.ensures, c.say-2.ensures, c.say.ensures)
