-- `reporting::put_front` meets its contract. Assumes nothing.
use Rattle.mode_lines.specs.Report.{front}
use Rattle.mode_lines.proofs.Laying.{kept_then}
use Rattle.mode_lines.proofs.reporting.put_front.Goals as goal

pub returns : goal.returns
unfolding front
returns c = kept_then (kept_then c.put_number-at.ensures (rw c.from.ensures at c.put_behind-at.ensures)) c.put_behind.ensures
