-- `together::together_lines` meets its contract. Assumes nothing.
use Prim.Native.Nat.{◌+◌}
use mathlib.Core.Path.{ap, sym, ◌∙◌}
use borrow.Author.Tests.{leb-true}
use lib.ListN.{length}
use Rattle.explaining.proofs.RoomLined.{lined, unlined}
use Rattle.summing.specs.Together.{moved_together, together_answer, together_most, together_text}
use Rattle.summing.proofs.together.together_lines.Goals as goal

pub put_moved-requires : goal.put_moved-requires
put_moved-requires c =
    let args = c.args in
    leb-true (args.at + together_most) (length args.buffer.now) (sym c.has_room.ensures ∙ c.if-has_room.true)

pub returns-then-has_room : goal.returns-then-has_room
unfolding together_answer moved_together
returns-then-has_room c =
    let args = c.args in
    let put = c.put_moved.ensures in
    let made = c.case_of-case in
    rw c.stored.ensures (
    lined args.buffer.now args.at together_most (moved_together args.number args.file args.item) (sym c.has_room.ensures ∙ c.if-has_room.true)
    (together_text made.result) (ap together_text made.ensures) _ _ put.wrote put.upper_bound
    )

pub returns : goal.returns
unfolding together_answer
returns c =
    let args = c.args in
    rw c.no_room.ensures (
    unlined args.buffer.now args.at together_most (moved_together args.number args.file args.item) (sym c.has_room.ensures ∙ c.if-has_room.false)
    )
