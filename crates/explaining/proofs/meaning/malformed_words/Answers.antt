-- `meaning::malformed_words` meets its contract. Assumes nothing.
use Rattle.file.specs.Readers.{ascii}
use Rattle.explaining.specs.Words.{malformed_words}
use Rattle.explaining.proofs.meaning.malformed_words.Goals as goal

pub returns : goal.returns
unfolding malformed_words ascii
returns c = rw (c.phrase.ensures, c.choose.ensures, c.say.ensures, c.malformed_word.ensures)
