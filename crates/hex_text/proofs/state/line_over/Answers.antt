-- `line_over` meets its contract. Assumes nothing.
use mathlib.Core.Path.{refl}
use Rattle.hex_text.specs.Machine.{line_over}
use Rattle.hex_text.proofs.state.line_over.Goals as goal

pub returns : goal.returns
unfolding line_over
returns c = refl
