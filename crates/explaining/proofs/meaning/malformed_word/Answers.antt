-- `meaning::malformed_word` meets its contract. Assumes nothing.
use Rattle.file.specs.Readers.{ascii}
use Rattle.access.specs.Checks.{is_passing}
use Rattle.explaining.specs.Words.{malformed_word}
use Rattle.explaining.proofs.meaning.malformed_word.Goals as goal

pub returns : goal.returns
unfolding malformed_word is_passing ascii
returns c = rw (c.choose.ensures, c.say.ensures, c.choose-known.ensures, c.access_why.ensures, c.passing_why.ensures)
