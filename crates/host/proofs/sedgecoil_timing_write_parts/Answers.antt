-- `sedgecoil_timing_write_parts` meets its contract. Assumes nothing.
use mathlib.Core.Path.{sym, ◌∙◌}
use Rattle.file.specs.Answers.{code_of}
use Rattle.host.proofs.Shown.{timing-unfit, timing-left}
use Rattle.host.proofs.sedgecoil_timing_write_parts.Goals as goal

pub returns-then-not-fits : goal.returns-then-not-fits
unfolding code_of
returns-then-not-fits c = rw c.code.ensures (timing-unfit _ _ _ (sym c.fits.ensures ∙ c.if-not-fits.true))

pub returns : goal.returns
returns c = timing-left _ _ _ (sym c.fits.ensures ∙ c.if-not-fits.false) c.held.result c.held.ensures c.timing_of.result c.timing_of.ensures c.write_timing-written.result c.write_timing-written.ensures _ c.code-2.ensures
