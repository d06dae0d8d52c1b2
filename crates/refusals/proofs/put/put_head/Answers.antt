-- `put::put_head` meets its contract. Assumes nothing.
use native.Mathlib.Omega.{arith}
use Rattle.file.specs.Readers.{ascii}
use Rattle.text.proofs.Stores.{then-text}
use Rattle.refusals.specs.Said.{head_text}
use Rattle.refusals.proofs.Lengths.{head-length}
use Rattle.refusals.proofs.put.put_head.Goals as goal

pub returns : goal.returns
unfolding head_text ascii
returns c =
    let long = head-length c.args.sum c.args.number in
    let said = c.put_behind-at.ensures.stored (omega (arith, long)) in
    let of = c.put_behind-at-2.ensures.stored (omega (arith, long, said.place)) in
    then-text (then-text said of) (c.put.ensures.stored (omega (arith, long, said.place, of.place)))
