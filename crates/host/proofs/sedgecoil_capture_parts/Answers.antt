-- `sedgecoil_capture_parts` meets its contract. Assumes nothing.
use mathlib.Core.Path.{sym, ap, ◌∙◌}
use Rattle.geometry.specs.declared.Geometry.{Geometry}
use Rattle.geometry.specs.Geometry.{read_geometry}
use Rattle.file.specs.Answers.{code_of}
use Rattle.host.specs.Lists.{capture_numbers, capture_read}
use Rattle.host.proofs.Shown.{shown-unfit, read_left}
use Rattle.host.proofs.sedgecoil_capture_parts.Goals as goal

pub returns-then-not-fits : goal.returns-then-not-fits
unfolding capture_read code_of
returns-then-not-fits c = rw c.code.ensures (shown-unfit _ _ _ _ (sym c.fits.ensures ∙ c.if-not-fits.true))

pub returns : goal.returns
unfolding capture_read
returns c =
    let told = c.read_geometry-read.ensures ∙ ap read_geometry c.held.ensures in
    read_left _ _ _ _ _ _ _ _ (ap (λ (x : Geometry). x.answer) told) (c.capture_numbers.ensures ∙ ap (λ (x : Geometry). capture_numbers x.capture) told) c.leave_read.ensures
