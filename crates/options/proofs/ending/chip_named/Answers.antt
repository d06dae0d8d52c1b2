-- `ending::chip_named` meets its contract. Assumes nothing.
use Rattle.std.proofs.Common.{refl}
use Rattle.options.specs.Asking.{chip_named}
use Rattle.options.proofs.SameTexts.{told-same}
use Rattle.options.proofs.ending.chip_named.Goals as goal

pub returns-in-Some : goal.returns-in-Some
unfolding chip_named
returns-in-Some c = rw (c.in-Some.is, told-same _ _ (rw (c.part.ensures, c.as_slice.ensures) at c.eq.ensures) c.if-eq.true) refl

pub returns-in_default : goal.returns-in_default
unfolding chip_named
returns-in_default c = rw (c.in-Some.is, told-same _ _ (rw (c.part.ensures, c.as_slice.ensures) at c.eq.ensures) c.if-eq.false) refl

pub returns-in_default-2 : goal.returns-in_default-2
unfolding chip_named
returns-in_default-2 c = rw c.in_default.is refl
