-- `nothing` meets its contract. Assumes nothing.
use borrow.Author.Rules.{rules}
use Rattle.touched.specs.Things.{nothing}
use Rattle.touched.proofs.set.Touched.nothing.Goals as goal

pub returns : goal.returns
unfolding nothing
returns c = search rules
