-- `rate::product` meets its contract. Assumes nothing.
use native.Mathlib.Nat.{div-one}
use Rattle.bits.specs.Store.{bits}
use Rattle.clock.specs.Clock.{numerator, product}
use Rattle.clock.proofs.rate.product.Goals as goal

pub returns : goal.returns
unfolding product numerator bits
returns c = simp (div-one, c.from.ensures)
