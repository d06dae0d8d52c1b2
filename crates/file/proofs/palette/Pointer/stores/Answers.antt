-- `Pointer::stores` meets its contract. Assumes nothing.
use borrow.Author.Rules.{rules}
use Rattle.file.specs.Palette.{stores}
use Rattle.file.proofs.palette.Pointer.stores.Goals as goal

pub returns : goal.returns
unfolding stores
returns c = search rules
