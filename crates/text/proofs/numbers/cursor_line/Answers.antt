-- `numbers::cursor_line` meets its contract. Assumes nothing.
use Rattle.file.specs.Readers.{ascii}
use Rattle.text.specs.Text.{cursor_line}
use Rattle.text.proofs.numbers.cursor_line.Goals as goal

pub returns : goal.returns
unfolding cursor_line ascii
returns c = c.numbers_line.ensures
