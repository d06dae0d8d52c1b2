-- `Pointer::addressed` meets its contract. Assumes nothing.
use borrow.Author.Rules.{rules}
use Rattle.file.specs.Palette.{addressed}
use Rattle.file.proofs.palette.Pointer.addressed.Goals as goal

pub returns : goal.returns
unfolding addressed
returns c = search rules
