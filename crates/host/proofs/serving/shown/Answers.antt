-- `shown` meets its contract. Assumes nothing.
use mathlib.Core.Path.{ap, ◌∙◌}
use mathlib.Core.Bool.{cond}
use Rattle.file.specs.File.{seen, register}
use Rattle.file.specs.Palette.{component}
use Rattle.access.specs.Access.{in_bank}
use Rattle.host.specs.Left.{colour_at}
use Rattle.host.proofs.serving.shown.Goals as goal

pub returns : goal.returns
unfolding in_bank register seen
returns c =
    let rest = c.args.rest.now in
    let in-palette = c.colour_at-in_palette.ensures ∙ ap (colour_at rest) c.palette_place.ensures.0 in
    let in-bank = c.colour_at-in_bank.ensures ∙ ap (colour_at rest) c.bank_place.ensures.0 in
    c.component.ensures ∙ (λ i. component (cond (c.is_in_bank-bank.ensures i) (in-bank i) (in-palette i)) c.args.state.pointer.next)
