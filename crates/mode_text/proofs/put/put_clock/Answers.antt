-- `mode_text::put::put_clock` meets its contract. Assumes nothing.
use mathlib.Core.Path.{ap}
use native.Mathlib.Omega.{arith}
use lib.ListN.{length}
use Rattle.text.proofs.Stores.{then-text}
use Rattle.mode_text.proofs.Joined.{clock-long, clock-stored, wrote_as}
use Rattle.mode_text.proofs.put.put_clock.Goals as goal

pub put_numbers-at-requires : goal.put_numbers-at-requires
put_numbers-at-requires c =
    omega (arith, clock-long c.args.khz, c.requires)

pub put-requires : goal.put-requires
put-requires c =
    omega (arith, clock-long c.args.khz, c.requires, c.put_numbers-at.ensures.place, ap length c.decimals.ensures)

pub returns : goal.returns
returns c =
    wrote_as (clock-stored c.args.khz) (then-text c.put_numbers-at.ensures (wrote_as c.decimals.ensures c.put.ensures))
