-- `reach_numbers` meets its contract. Assumes nothing.
use mathlib.Core.Path.{◌∙◌}
use mathlib.Core.List.{[], ◌∷◌}
use Rattle.host.specs.Lists.{reach_numbers}
use Rattle.host.proofs.Flags.{flagged}
use Rattle.host.proofs.lists.reach_numbers.Goals as goal

pub returns : goal.returns
unfolding reach_numbers
returns c =
    let reach = c.args.reach in
    λ i.
    reach.register
    ∷ reach.bits
    ∷ (c.from.ensures ∙ flagged reach.pointer) i
    ∷ (c.from-2.ensures ∙ flagged reach.toggle) i
    ∷ (c.from-3.ensures ∙ flagged reach.marks) i
    ∷ (c.from-4.ensures ∙ flagged reach.line) i
    ∷ (c.from-5.ensures ∙ flagged reach.palette) i
    ∷ (c.from-6.ensures ∙ flagged reach.bank) i
    ∷ reach.entry
    ∷ []
