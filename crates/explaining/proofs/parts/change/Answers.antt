-- `parts::change` meets its contract. Assumes nothing.
use Rattle.file.specs.Readers.{ascii}
use Rattle.explaining.specs.Explained.{changed}
use Rattle.explaining.proofs.parts.change.Goals as goal

pub returns : goal.returns
unfolding changed ascii
returns c = rw (c.told-3.ensures, c.told-2.ensures, c.told.ensures, c.choose-last.ensures, c.phrase.ensures, c.none.ensures, c.phrase-way.ensures, c.choose.ensures, c.say-2.ensures, c.say.ensures)
