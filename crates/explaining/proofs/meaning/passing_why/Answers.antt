-- `meaning::passing_why` meets its contract. Assumes nothing.
use Rattle.file.specs.Readers.{ascii}
use Rattle.explaining.specs.Words.{passing_why}
use Rattle.explaining.proofs.meaning.passing_why.Goals as goal

pub returns : goal.returns
unfolding passing_why ascii
returns c = rw (c.choose.ensures, c.say-3.ensures, c.choose-lines.ensures, c.say-2.ensures, c.say.ensures)
