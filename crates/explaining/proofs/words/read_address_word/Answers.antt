-- `words::read_address_word` meets its contract. Assumes nothing.
use Rattle.file.specs.Readers.{ascii}
use Rattle.access.specs.Checks.{is_write}
use Rattle.explaining.specs.Words.{read_address_word}
use Rattle.explaining.proofs.words.read_address_word.Goals as goal

pub returns : goal.returns
unfolding read_address_word is_write ascii
returns c = rw (c.choose.ensures, c.say-2.ensures, c.say.ensures)
