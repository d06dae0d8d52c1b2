-- `inputs::is_standard_input` meets its contract. Assumes nothing.
use Rattle.std.proofs.Common.{◌∙◌}
use Rattle.options.specs.Inputs.{is_standard_input}
use Rattle.options.proofs.SameTexts.{same-told}
use Rattle.options.proofs.inputs.is_standard_input.Goals as goal

pub returns : goal.returns
unfolding is_standard_input
returns c = (rw (c.part.ensures, c.as_slice.ensures) at c.eq.ensures) ∙ same-told _ _
