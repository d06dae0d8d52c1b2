-- `meaning::off_words` meets its contract. Assumes nothing.
use Rattle.file.specs.Readers.{ascii}
use Rattle.access.specs.Checks.{is_port}
use Rattle.explaining.specs.Words.{off_words}
use Rattle.explaining.proofs.meaning.off_words.Goals as goal

pub returns : goal.returns
unfolding off_words is_port ascii
returns c = rw (c.phrase.ensures, c.named.ensures, c.choose-bit.ensures, c.say-2.ensures, c.say.ensures)
