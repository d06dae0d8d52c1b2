-- `putting::store_number` meets its contract. Assumes nothing.
use native.Mathlib.Omega.{arith}
use Rattle.text.specs.Text.{decimal, decimal_places}
use Rattle.text.proofs.Spelled.{digits-length}
use Rattle.text.proofs.putting.store_number.Goals as goal

pub spell-requires : goal.spell-requires
unfolding decimal
spell-requires c =
    let n = c.args.n in
    omega (arith, digits-length (decimal_places n n) n, c.places.ensures.0, c.requires)

pub returns : goal.returns
unfolding decimal
returns c = rw c.places.ensures.0 at c.spell.ensures
