-- `rest_in` meets its contract. Assumes nothing.
use Rattle.image.specs.Image.{rest_in}
use Rattle.image.proofs.saving.rest_in.Goals as goal

pub returns : goal.returns
unfolding rest_in
returns c = c.copy_from_slice.ensures.after
