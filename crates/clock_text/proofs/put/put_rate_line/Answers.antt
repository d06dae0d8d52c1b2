-- `put::put_rate_line` meets its contract. Assumes nothing.
use native.Mathlib.Omega.{arith}
use Rattle.text.specs.Text.{newline}
use Rattle.text.proofs.Stores.{then-text}
use Rattle.clock_text.proofs.Lengths.{rate-line-length}
use Rattle.clock_text.proofs.put.put_rate_line.Goals as goal

pub put-at-requires : goal.put-at-requires
put-at-requires c = omega (arith, rate-line-length c.args.word.now c.args.rate)

pub put_rate-at-requires : goal.put_rate-at-requires
put_rate-at-requires c =
    let long = rate-line-length c.args.word.now c.args.rate in
    omega (arith, long, c.put-at.ensures.place)

pub put-requires : goal.put-requires
put-requires c =
    let long = rate-line-length c.args.word.now c.args.rate in
    omega (arith, long, c.put-at.ensures.place, c.put_rate-at.ensures.place)

pub returns : goal.returns
unfolding newline
returns c = then-text (then-text c.put-at.ensures c.put_rate-at.ensures) c.put.ensures
