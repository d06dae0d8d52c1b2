-- `meaning::locked_words` meets its contract. Assumes nothing.
use Rattle.file.specs.Readers.{ascii}
use Rattle.explaining.specs.Words.{locked_words}
use Rattle.explaining.proofs.meaning.locked_words.Goals as goal

pub returns : goal.returns
unfolding locked_words ascii
returns c = rw (c.none-none.ensures, c.named-last.ensures, c.say-to.ensures, c.named-first.ensures, c.say-locks.ensures, c.named-lock.ensures)
