-- `painted` meets its contract. Assumes nothing.
use Rattle.quick.proofs.Packed.{packed}
use borrow.Author.Rules.{rules}
use Rattle.quick.proofs.said.painted.Goals as goal

pub returns : goal.returns
returns c = packed c.args.bank c.args.colour c.args.address _ c.mark_of.ensures.0 (search rules) (search rules) (search rules) (search rules)
