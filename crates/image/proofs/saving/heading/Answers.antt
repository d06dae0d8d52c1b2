-- `heading` meets its contract. Assumes nothing.
use Rattle.image.specs.Image.{heading}
use Rattle.image.proofs.saving.heading.Goals as goal

pub returns : goal.returns
unfolding heading
returns c = cc c.flag_byte.ensures
