-- `Pointer::mixed` meets its contract. Assumes nothing.
use borrow.Author.Rules.{rules}
use Rattle.file.specs.Palette.{mixed}
use Rattle.file.proofs.palette.Pointer.mixed.Goals as goal

pub returns : goal.returns
unfolding mixed
returns c = search rules
