-- `reporting::put_hex` meets its contract. Assumes nothing.
use Rattle.text.specs.Text.{space}
use Rattle.mode_lines.specs.Report.{hex_two}
use Rattle.mode_lines.proofs.reporting.put_hex.Goals as goal

pub returns : goal.returns
unfolding space hex_two
returns c =
    rw (c.capital.ensures, c.capital-2.ensures) at c.keep.ensures.kept
