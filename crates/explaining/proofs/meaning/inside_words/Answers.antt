-- `meaning::inside_words` meets its contract. Assumes nothing.
use Rattle.file.specs.Readers.{ascii}
use Rattle.explaining.specs.Words.{inside_words}
use Rattle.explaining.proofs.meaning.inside_words.Goals as goal

pub returns : goal.returns
unfolding inside_words ascii
returns c = rw (c.phrase.ensures, c.short.ensures, c.saturating_sub.ensures, c.say.ensures)
