-- `sedgecoil_timing_parts` meets its contract. Assumes nothing.
use mathlib.Core.Path.{sym, ap, ◌∙◌}
use Rattle.timing.specs.declared.Read.{Read}
use Rattle.timing.specs.Timing.{numbers_of, read_timing}
use Rattle.file.specs.Answers.{code_of}
use Rattle.host.specs.Lists.{timing_read}
use Rattle.host.proofs.Shown.{shown-unfit, read_left}
use Rattle.host.proofs.sedgecoil_timing_parts.Goals as goal

pub returns-then-not-fits : goal.returns-then-not-fits
unfolding timing_read code_of
returns-then-not-fits c = rw c.code.ensures (shown-unfit _ _ _ _ (sym c.fits.ensures ∙ c.if-not-fits.true))

pub returns : goal.returns
unfolding timing_read
returns c =
    let told = c.read_timing-read.ensures ∙ ap read_timing c.held.ensures in
    read_left _ _ _ _ _ _ _ _ (ap (λ (x : Read). x.answer) told) (c.numbers.ensures ∙ ap (λ (x : Read). numbers_of x.timing) told) c.leave_read.ensures
