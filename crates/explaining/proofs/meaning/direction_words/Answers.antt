-- `meaning::direction_words` meets its contract. Assumes nothing.
use Rattle.file.specs.Readers.{ascii}
use Rattle.access.specs.Checks.{is_write}
use Rattle.explaining.specs.Words.{direction_words}
use Rattle.explaining.proofs.meaning.direction_words.Goals as goal

pub returns : goal.returns
unfolding direction_words is_write ascii
returns c = rw (c.phrase.ensures, c.choose.ensures, c.say-2.ensures, c.say.ensures)
