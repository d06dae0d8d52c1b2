-- `put::put_terms` meets its contract. Assumes nothing.
use native.Mathlib.Omega.{arith}
use Rattle.file.specs.Readers.{ascii}
use Rattle.text.proofs.Stores.{then-text}
use Rattle.clock_text.specs.Report.{terms_text}
use Rattle.clock_text.proofs.Lengths.{terms-length}
use Rattle.clock_text.proofs.put.put_terms.Goals as goal

pub put-at-requires : goal.put-at-requires
unfolding ascii
put-at-requires c =
    let long = terms-length c.args.terms in
    let above = rw c.from.ensures at (c.put_number-at.ensures.stored (rw c.from.ensures (omega (arith, long)))) in
    omega (arith, long, above.place)

pub returns : goal.returns
unfolding terms_text ascii
returns c =
    let long = terms-length c.args.terms in
    let above = rw c.from.ensures at (c.put_number-at.ensures.stored (rw c.from.ensures (omega (arith, long)))) in
    let below = c.put_number.ensures.stored (rw c.from-2.ensures (omega (arith, long, above.place, c.put-at.ensures.place))) in
    then-text (then-text above c.put-at.ensures) (rw c.from-2.ensures at below)
