-- `flipped` meets its contract. Assumes nothing.
use Rattle.file.specs.State.{toggling, flipped}
use mathlib.Core.Path.{◌≡◌, refl, ap, ◌∙◌}
use mathlib.Core.Bool.{Bool, true, false, not, cond, beq}
use Rattle.file.proofs.state.State.flipped.Goals as goal

-- what differs from a truth value is its opposite
differs : (toggle flips : Bool) → not (beq toggle flips) ≡ cond flips (not toggle) toggle
differs true true = refl
differs true false = refl
differs false true = refl
differs false false = refl

pub returns : goal.returns
unfolding flipped
returns c =
    let self = c.args.self in
    c.toggling.ensures ∙ ap (λ toggle. toggling toggle self) (differs self.toggle c.args.flips)
