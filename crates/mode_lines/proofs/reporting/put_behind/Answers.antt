-- `reporting::put_behind` meets its contract. Assumes nothing.
use Rattle.text.specs.Text.{space}
use Rattle.mode_lines.proofs.Laying.{kept_then}
use Rattle.mode_lines.proofs.reporting.put_behind.Goals as goal

pub returns : goal.returns
unfolding space
returns c = kept_then c.keep-at.ensures.kept c.put_number.ensures
