-- `is_sound` meets its contract: the colours play no part in soundness. Assumes nothing.
use Rattle.file.specs.File.{seen}
use Rattle.file.specs.Sound.{sound}
use Rattle.file.proofs.sound.is_sound.Goals as goal

pub returns : goal.returns
unfolding sound seen
returns c = c.are_sound.ensures
