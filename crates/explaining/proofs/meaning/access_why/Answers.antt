-- `meaning::access_why` meets its contract. Assumes nothing.
use Rattle.file.specs.Readers.{ascii}
use Rattle.access.specs.Checks.{is_write}
use Rattle.explaining.specs.Words.{access_why}
use Rattle.explaining.proofs.meaning.access_why.Goals as goal

pub returns : goal.returns
unfolding access_why is_write ascii
returns c = rw (c.choose.ensures, c.say-3.ensures, c.choose-value.ensures, c.say-2.ensures, c.say.ensures)
