-- `put::put_summary` meets its contract. Assumes nothing.
use native.Mathlib.Omega.{arith}
use Rattle.file.specs.Readers.{ascii}
use Rattle.text.proofs.Stores.{then-text}
use Rattle.clock_text.specs.Report.{summary}
use Rattle.clock_text.proofs.Lengths.{summary-length}
use Rattle.clock_text.proofs.put.put_summary.Goals as goal

pub put_counts-at-requires : goal.put_counts-at-requires
put_counts-at-requires c = omega (arith, summary-length c.args.tally)

pub put_rate_line-at-requires : goal.put_rate_line-at-requires
unfolding ascii
put_rate_line-at-requires c = omega (arith, summary-length c.args.tally, c.put_counts-at.ensures.place)

pub put_rate_line-requires : goal.put_rate_line-requires
unfolding ascii
put_rate_line-requires c =
    omega (arith, summary-length c.args.tally, c.put_counts-at.ensures.place, c.put_rate_line-at.ensures.place)

pub returns : goal.returns
unfolding summary ascii
returns c = then-text (then-text c.put_counts-at.ensures c.put_rate_line-at.ensures) c.put_rate_line.ensures
