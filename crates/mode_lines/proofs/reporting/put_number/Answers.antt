-- `reporting::put_number` meets its contract. Assumes nothing.
use Rattle.mode_lines.proofs.Spelling.{fewest-decimal}
use Rattle.mode_lines.proofs.reporting.put_number.Goals as goal

pub returns : goal.returns
returns c =
    let spelled = c.decimal-size.ensures in
    rw (fewest-decimal _ _ spelled.len) at (rw spelled.digits at c.keep.ensures.kept)
