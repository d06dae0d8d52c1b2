-- `rate::denominator` meets its contract. Assumes nothing.
use borrow.Author.Rules.{rules}
use Rattle.bits.specs.Store.{bits}
use Rattle.clock.specs.Clock.{denominator}
use Rattle.clock.proofs.rate.denominator.Goals as goal

pub returns : goal.returns
unfolding denominator bits
returns c = search rules
