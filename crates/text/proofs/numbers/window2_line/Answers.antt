-- `numbers::window2_line` meets its contract. Assumes nothing.
use Rattle.file.specs.Readers.{ascii}
use Rattle.text.specs.Text.{window_2_line}
use Rattle.text.proofs.numbers.window2_line.Goals as goal

pub returns : goal.returns
unfolding window_2_line ascii
returns c = c.numbers_line.ensures
