-- `standing_at` meets its contract. Assumes nothing.
use mathlib.Core.Path.{refl}
use Rattle.hex_text.specs.Machine.{standing}
use Rattle.hex_text.proofs.state.standing_at.Goals as goal

pub returns : goal.returns
unfolding standing
returns c = refl
