-- `is_file` meets its contract: the colours play no part in soundness. Assumes nothing.
use mathlib.Core.Path.{sym, ap, ◌∙◌}
use Rattle.file.specs.declared.state.State.{State}
use Rattle.file.specs.File.{seen}
use Rattle.file.specs.Sound.{sound}
use Rattle.image.specs.Parts.{held_in, sound_in}
use Rattle.image.proofs.soundness.is_file.Goals as goal

pub returns-then-fits : goal.returns-then-fits
unfolding sound_in held_in sound seen
returns-then-fits c =
    rw (sym c.fits.ensures ∙ c.if-fits.true) (c.are_sound.ensures ∙ ap (λ (s : State). sound (seen c.args.registers s)) c.state_in.ensures)

pub returns-else-fits : goal.returns-else-fits
unfolding sound_in
returns-else-fits c = c.if-fits.false ∙ rw (sym c.fits.ensures ∙ c.if-fits.false)
