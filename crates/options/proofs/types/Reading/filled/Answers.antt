-- `types::Reading::filled` meets its contract. Assumes nothing.
use Rattle.std.proofs.Common.{refl, arith}
use Rattle.options.specs.Slots.{filled}
use Rattle.options.proofs.Numbers.{number-small}
use Rattle.options.proofs.types.Reading.filled.Goals as goal

pub offset_bounds-after-number_of : goal.offset_bounds-after-number_of
offset_bounds-after-number_of c = omega (arith, c.number_of.ensures, number-small c.args.slot)

pub bounds-after-number_of : goal.bounds-after-number_of
bounds-after-number_of c = rw c.number_of.ensures (number-small c.args.slot)

pub returns : goal.returns
unfolding filled
returns c = rw c.number_of.ensures refl
