-- `paints_bank` meets its contract. Assumes nothing.
use mathlib.Core.Path.{refl}
use Rattle.quick.specs.Said.{bank_in, mark_in}
use Rattle.quick.proofs.said.paints_bank.Goals as goal

pub returns : goal.returns
unfolding bank_in mark_in
returns c = refl
