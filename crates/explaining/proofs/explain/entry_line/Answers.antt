-- `explain::entry_line` meets its contract. Assumes nothing.
use Rattle.file.specs.Readers.{ascii}
use Rattle.explaining.specs.Explained.{entry_line}
use Rattle.explaining.proofs.explain.entry_line.Goals as goal

pub returns : goal.returns
unfolding entry_line ascii
returns c = rw (c.part_line.ensures, c.phrase-2.ensures, c.hex-2.ensures, c.phrase.ensures, c.hex.ensures, c.phrase-label.ensures, c.say-3.ensures, c.hex-entry.ensures, c.choose-which.ensures, c.say-2.ensures, c.say.ensures, c.colour_code-new.ensures, c.entry_in-2.ensures, c.colour_code-old.ensures, c.entry_in.ensures)
