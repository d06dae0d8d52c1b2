-- `mode_text::put::put_line` meets its contract. Assumes nothing.
use mathlib.Core.Path.{ap}
use lib.ListN.{length}
use native.Mathlib.Omega.{arith}
use Rattle.text.proofs.Stores.{then-text}
use Rattle.mode_text.proofs.Joined.{flags_long, name-long, stored-line, stored-long, wrote_as}
use Rattle.mode_text.proofs.put.put_line.Goals as goal

pub put_name-at-requires : goal.put_name-at-requires
put_name-at-requires c =
    let args = c.args in
    omega (arith, c.requires, stored-long args.name.now args.khz args.numbers.now args.h_minus args.v_minus)

pub put_clock-at-requires : goal.put_clock-at-requires
put_clock-at-requires c =
    let args = c.args in
    omega (arith, c.requires, stored-long args.name.now args.khz args.numbers.now args.h_minus args.v_minus, name-long args.name.now, c.put_name-at.ensures.place)

pub put_numbers-at-requires : goal.put_numbers-at-requires
put_numbers-at-requires c =
    let args = c.args in
    omega (arith, c.requires, stored-long args.name.now args.khz args.numbers.now args.h_minus args.v_minus, name-long args.name.now, c.put_name-at.ensures.place, c.put_clock-at.ensures.place)

pub put-requires : goal.put-requires
put-requires c =
    let args = c.args in
    omega (arith, c.requires, stored-long args.name.now args.khz args.numbers.now args.h_minus args.v_minus, name-long args.name.now, c.put_name-at.ensures.place, c.put_clock-at.ensures.place, c.put_numbers-at.ensures.place, ap length c.flags.ensures, flags_long args.name.now args.khz args.numbers.now args.h_minus args.v_minus)

pub returns : goal.returns
returns c =
    let args = c.args in
    wrote_as (stored-line args.name.now args.khz args.numbers.now args.h_minus args.v_minus)
    (then-text (then-text (then-text c.put_name-at.ensures c.put_clock-at.ensures) c.put_numbers-at.ensures) (wrote_as c.flags.ensures c.put.ensures))
