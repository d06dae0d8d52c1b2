-- `capture_numbers` meets its contract. Assumes nothing.
use mathlib.Core.List.{[], ◌∷◌}
use Rattle.host.specs.Lists.{capture_numbers}
use Rattle.host.proofs.lists.capture_numbers.Goals as goal

pub returns : goal.returns
unfolding capture_numbers
returns c = λ i. c.from.ensures i ∷ c.from-2.ensures i ∷ c.from-3.ensures i ∷ c.from-4.ensures i ∷ []
