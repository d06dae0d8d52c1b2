-- `ending::is_plain` meets its contract. Assumes nothing.
use Rattle.std.proofs.Common.{refl, ◌∙◌}
use Rattle.options.specs.Asking.{is_plain}
use Rattle.options.proofs.SameTexts.{same-told}
use Rattle.options.proofs.ending.is_plain.Goals as goal

pub returns-in-Some : goal.returns-in-Some
unfolding is_plain
returns-in-Some c = rw c.in-Some.is ((rw (c.part.ensures, c.as_slice.ensures) at c.eq.ensures) ∙ same-told _ _)

pub returns-in-None : goal.returns-in-None
unfolding is_plain
returns-in-None c = rw c.in-None.is refl
