-- `put::put_counts` meets its contract. Assumes nothing.
use native.Mathlib.Omega.{arith}
use Rattle.file.specs.Readers.{ascii}
use Rattle.text.specs.Text.{newline, space}
use Rattle.text.proofs.Stores.{then-text}
use Rattle.clock_text.specs.Report.{counts_line}
use Rattle.clock_text.proofs.Lengths.{counts-length}
use Rattle.clock_text.proofs.put.put_counts.Goals as goal

pub put-requires : goal.put-requires
unfolding ascii space
put-requires c =
    let long = counts-length c.args.tally in
    let rates = c.put_behind-at.ensures.stored (omega (arith, long)) in
    let nones = c.put_behind-at-2.ensures.stored (omega (arith, long, rates.place)) in
    let refused = c.put_behind-at-3.ensures.stored (omega (arith, long, rates.place, nones.place)) in
    omega (arith, long, rates.place, nones.place, refused.place)

pub returns : goal.returns
unfolding counts_line ascii space newline
returns c =
    let long = counts-length c.args.tally in
    let rates = c.put_behind-at.ensures.stored (omega (arith, long)) in
    let nones = c.put_behind-at-2.ensures.stored (omega (arith, long, rates.place)) in
    let refused = c.put_behind-at-3.ensures.stored (omega (arith, long, rates.place, nones.place)) in
    then-text (then-text (then-text rates nones) refused) c.put.ensures
