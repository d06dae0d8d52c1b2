-- `is_in_bank` meets its contract. Assumes nothing.
use Rattle.access.specs.Access.{in_bank}
use Rattle.file.specs.File.{seen, register}
use Rattle.bits.specs.Store.{bit}
use borrow.Author.Rules.{rules}
use Rattle.access.proofs.engine.is_in_bank.Goals as goal

pub returns : goal.returns
unfolding in_bank bit seen register
returns c = search rules
