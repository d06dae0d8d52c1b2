-- `numbers::timing_line` meets its contract. Assumes nothing.
use Rattle.file.specs.Readers.{ascii}
use Rattle.text.specs.Text.{timing_line}
use Rattle.text.proofs.numbers.timing_line.Goals as goal

pub returns : goal.returns
unfolding timing_line ascii
returns c = rw c.numbers-numbers.ensures at c.numbers_line.ensures
