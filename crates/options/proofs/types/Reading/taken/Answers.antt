-- `types::Reading::taken` meets its contract. Assumes nothing.
use Rattle.std.proofs.Common.{refl, arith}
use Rattle.options.specs.Slots.{taken_at}
use Rattle.options.proofs.Numbers.{number-small}
use Rattle.options.proofs.types.Reading.taken.Goals as goal

pub offset_bounds-filled-number_of : goal.offset_bounds-filled-number_of
offset_bounds-filled-number_of c = omega (arith, c.number_of.ensures, number-small c.args.slot)

pub bounds-filled-number_of : goal.bounds-filled-number_of
bounds-filled-number_of c = rw c.number_of.ensures (number-small c.args.slot)

pub returns : goal.returns
unfolding taken_at
returns c = rw c.number_of.ensures refl
