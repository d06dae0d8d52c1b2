-- `chip_byte` meets its contract. Assumes nothing.
use borrow.Author.Rules.{rules}
use Rattle.image.specs.Parts.{chip_byte}
use Rattle.image.proofs.parts.chip_byte.Goals as goal

pub returns-in-Gd5462 : goal.returns-in-Gd5462
unfolding chip_byte
returns-in-Gd5462 c = search rules

pub returns-in-Gd5464 : goal.returns-in-Gd5464
unfolding chip_byte
returns-in-Gd5464 c = search rules
