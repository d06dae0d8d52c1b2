-- `numbers::capture_line` meets its contract. Assumes nothing.
use Rattle.file.specs.Readers.{ascii}
use Rattle.text.specs.Text.{capture_line}
use Rattle.text.proofs.numbers.capture_line.Goals as goal

pub returns : goal.returns
unfolding capture_line ascii
returns c = c.numbers_line.ensures
