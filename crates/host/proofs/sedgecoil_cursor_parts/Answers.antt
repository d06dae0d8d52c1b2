-- `sedgecoil_cursor_parts` meets its contract. Assumes nothing.
use Prim.Native.Nat.{◌<◌, ◌^◌}
use mathlib.Core.Path.{ap, ◌∙◌, sym, subst}
use Rattle.geometry.specs.declared.Geometry.{Geometry}
use Rattle.geometry.specs.Geometry.{read_geometry}
use Rattle.file.specs.Answers.{code_of}
use Rattle.host.specs.Lists.{cursor_numbers, cursor_read}
use Rattle.host.proofs.Shown.{address_below, read_left, shown-unfit}
use Rattle.host.proofs.sedgecoil_cursor_parts.Goals as goal

pub cursor_numbers-requires : goal.cursor_numbers-requires
cursor_numbers-requires c =
    subst (λ (x : Geometry). x.cursor.address < 2 ^ 31) (sym c.read_geometry-read.ensures) (address_below c.held.result)

pub returns-then-not-fits : goal.returns-then-not-fits
unfolding cursor_read code_of
returns-then-not-fits c = rw c.code.ensures (shown-unfit _ _ _ _ (sym c.fits.ensures ∙ c.if-not-fits.true))

pub returns : goal.returns
unfolding cursor_read
returns c =
    let told = c.read_geometry-read.ensures ∙ ap read_geometry c.held.ensures in
    read_left _ _ _ _ _ _ _ _ (ap (λ (x : Geometry). x.answer) told) (c.cursor_numbers.ensures ∙ ap (λ (x : Geometry). cursor_numbers x.cursor) told) c.leave_read.ensures
