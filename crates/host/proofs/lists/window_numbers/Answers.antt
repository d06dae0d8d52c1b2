-- `window_numbers` meets its contract. Assumes nothing.
use mathlib.Core.Path.{◌∙◌}
use mathlib.Core.List.{[], ◌∷◌}
use Rattle.host.specs.Lists.{window_numbers}
use Rattle.host.proofs.Flags.{flagged}
use Rattle.host.proofs.lists.window_numbers.Goals as goal

pub returns : goal.returns
unfolding window_numbers
returns c =
    let w = c.args.window in
    λ i.
    (c.from.ensures ∙ flagged w.enabled) i
    ∷ (c.from-2.ensures ∙ flagged w.video) i
    ∷ c.from-3.ensures i
    ∷ c.from-4.ensures i
    ∷ c.from-5.ensures i
    ∷ c.from-6.ensures i
    ∷ (c.from-7.ensures ∙ flagged w.empty) i
    ∷ (c.from-8.ensures ∙ flagged w.fault) i
    ∷ c.from-9.ensures i
    ∷ c.from-10.ensures i
    ∷ []
