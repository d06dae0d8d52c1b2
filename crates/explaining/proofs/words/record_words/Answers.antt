-- `words::record_words` meets its contract. Assumes nothing.
use Rattle.file.specs.Readers.{ascii}
use Rattle.access.specs.Checks.{is_passing}
use Rattle.explaining.specs.Words.{record_words}
use Rattle.explaining.proofs.words.record_words.Goals as goal

pub returns : goal.returns
unfolding record_words is_passing ascii
returns c = rw (c.choose.ensures, c.access_words.ensures, c.choose-other.ensures, c.phrase-unknown.ensures, c.decimal.ensures, c.say.ensures, c.passing_words-lines.ensures)
