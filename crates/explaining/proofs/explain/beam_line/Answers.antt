-- `explain::beam_line` meets its contract. Assumes nothing.
use Rattle.file.specs.Readers.{ascii}
use Rattle.explaining.specs.Explained.{beam_line}
use Rattle.explaining.proofs.explain.beam_line.Goals as goal

pub returns : goal.returns
unfolding beam_line ascii
returns c = rw (c.part_line.ensures, c.phrase-after.ensures, c.decimal-2.ensures, c.from-2.ensures, c.phrase-before.ensures, c.decimal.ensures, c.from.ensures, c.phrase-label.ensures, c.say.ensures)
