-- `new_line` meets its contract. Assumes nothing.
use Rattle.hex_text.specs.Machine.{new_line}
use Rattle.hex_text.proofs.state.new_line.Goals as goal

pub returns : goal.returns
unfolding new_line
returns c = cc c.moved.ensures
