-- `put::put_line` meets its contract. Assumes nothing.
use native.Mathlib.Omega.{arith}
use Rattle.text.specs.Text.{newline}
use Rattle.text.proofs.Stores.{then-text}
use Rattle.clock_text.specs.Report.{clock_line}
use Rattle.clock_text.proofs.Lengths.{line-length}
use Rattle.clock_text.proofs.put.put_line.Goals as goal

pub put_clock-at-requires : goal.put_clock-at-requires
put_clock-at-requires c = omega (arith, line-length c.args.clock)

pub put-requires : goal.put-requires
put-requires c = omega (arith, line-length c.args.clock, c.put_clock-at.ensures.place)

pub returns : goal.returns
unfolding clock_line newline
returns c = then-text c.put_clock-at.ensures c.put.ensures
