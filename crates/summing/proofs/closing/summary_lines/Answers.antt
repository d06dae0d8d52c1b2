-- `closing::summary_lines` meets its contract. Assumes nothing.
use Prim.Native.Nat.{◌+◌}
use mathlib.Core.Path.{refl, sym, ◌∙◌}
use borrow.Author.Tests.{leb-true}
use lib.ListN.{length}
use Rattle.explaining.proofs.RoomLined.{lined, unlined}
use Rattle.summing.specs.Closing.{summary_answer, summary_most, summary_text}
use Rattle.summing.proofs.closing.summary_lines.Goals as goal

pub put_summary-requires : goal.put_summary-requires
put_summary-requires c =
    let args = c.args in
    leb-true (args.at + summary_most) (length args.buffer.now) (sym c.has_room.ensures ∙ c.if-has_room.true)

pub returns-then-has_room : goal.returns-then-has_room
unfolding summary_answer summary_text
returns-then-has_room c =
    let args = c.args in
    let put = c.put_summary.ensures in
    rw c.stored.ensures (
    lined args.buffer.now args.at summary_most (summary_text args.summary) (sym c.has_room.ensures ∙ c.if-has_room.true)
    (summary_text args.summary) refl _ _ put.wrote put.upper_bound
    )

pub returns : goal.returns
unfolding summary_answer
returns c =
    let args = c.args in
    rw c.no_room.ensures (
    unlined args.buffer.now args.at summary_most (summary_text args.summary) (sym c.has_room.ensures ∙ c.if-has_room.false)
    )
