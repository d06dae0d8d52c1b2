-- `words::part` meets its contract. Assumes nothing.
use Rattle.options.proofs.Parts.{clipped}
use Rattle.options.specs.Words.{part}
use Rattle.options.proofs.words.part.Goals as goal

pub returns : goal.returns
unfolding part
returns c = clipped _ _ _ _ _ c.min-to.ensures c.min-from.ensures
