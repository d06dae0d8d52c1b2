-- `words::ends_in_hex` meets its contract. Assumes nothing.
use Rattle.std.proofs.Common.{◌∙◌}
use Rattle.options.specs.Words.{ends_in_hex}
use Rattle.options.proofs.SameTexts.{same-turned}
use Rattle.options.proofs.words.ends_in_hex.Goals as goal

pub returns : goal.returns
unfolding ends_in_hex
returns c = c.ends_with.ensures.value ∙ same-turned _ _
