-- `line::counts_line` meets its contract. Assumes nothing.
use Prim.Native.Nat.{◌≤◌}
use mathlib.Core.Path.{sym, ap, ◌∙◌}
use native.Mathlib.Omega.{arith}
use lib.ListN.{length}
use Rattle.text.proofs.Standing.{lined-as}
use Rattle.refusals.specs.Said.{refused_most, refused_text}
use Rattle.refusals.proofs.Lengths.{refused-most, stored-text}
use Rattle.refusals.proofs.line.counts_line.Goals as goal

-- the buffer of its own has room
short : (c : goal.After-line-1) → length (refused_text c.args.number c.args.counts.now) ≤ refused_most
short c =
    refused-most c.args.number c.args.counts.now (omega arith) (omega (arith, c.told-counts))
    (λ k. omega (arith, c.fits-counts k))

pub put_line-end-requires : goal.put_line-end-requires
unfolding refused_most
put_line-end-requires c = short c

-- the buffer of its own has room
short-2 : (c : goal.After-plain_text-arg-1) → length (refused_text c.args.number c.args.counts.now) ≤ refused_most
short-2 c =
    refused-most c.args.number c.args.counts.now (omega arith) (omega (arith, c.told-counts))
    (λ k. omega (arith, c.fits-counts k))

pub slice_bounds-line-end : goal.slice_bounds-line-end
unfolding refused_most
slice_bounds-line-end c = (stored-text c.put_line-end.ensures (short-2 c)).1.0

-- the buffer of its own has room
short-3 : (c : goal.After-line-3-1) → length (refused_text c.args.number c.args.counts.now) ≤ refused_most
short-3 c =
    refused-most c.args.number c.args.counts.now (omega arith) (omega (arith, c.told-counts))
    (λ k. omega (arith, c.fits-counts k))

pub slice_bounds-plain_text-end : goal.slice_bounds-plain_text-end
unfolding refused_most
slice_bounds-plain_text-end c =
    let stands = stored-text c.put_line-end.ensures (short-3 c) in
    stands.1.1 ∙ sym (ap length stands.0)

-- the buffer of its own has room
short-4 : (c : goal.After-slice_known-2-1) → length (refused_text c.args.number c.args.counts.now) ≤ refused_most
short-4 c =
    refused-most c.args.number c.args.counts.now (omega arith) (omega (arith, c.told-counts))
    (λ k. omega (arith, c.fits-counts k))

pub returns : goal.returns
unfolding refused_most
returns c =
    let stands = stored-text c.put_line-end.ensures (short-4 c) in
    let args = c.args in
    let last = c.plain_text in
    lined-as args.at _ (refused_text args.number args.counts.now) args.buffer.now _ last.result stands.0 last.ensures
