-- `explain::record_lines` meets its contract. Assumes nothing.
use Prim.Native.Nat.{◌+◌}
use mathlib.Core.Path.{sym, ap, ◌∙◌}
use borrow.Author.Tests.{leb-true}
use lib.ListN.{length}
use Rattle.explaining.specs.Explained.{explained, line_at, line_count, record_answer, record_most}
use Rattle.explaining.specs.Lines.{lines_of}
use Rattle.explaining.specs.declared.explain.Case.{Case}
use Rattle.explaining.proofs.RoomLined.{lined, unlined}
use Rattle.explaining.proofs.explain.record_lines.Goals as goal

pub put_record-requires : goal.put_record-requires
put_record-requires c =
    let args = c.args in
    leb-true (args.at + record_most) (length args.buffer.now) (sym c.has_room.ensures ∙ c.if-has_room.true)

pub returns-then-has_room : goal.returns-then-has_room
unfolding record_answer explained
returns-then-has_room c =
    let args = c.args in
    let put = c.put_record.ensures in
    let made = c.case_of-case in
    rw c.stored.ensures (
    lined args.buffer.now args.at record_most (explained args.number args.file args.item) (sym c.has_room.ensures ∙ c.if-has_room.true)
    (lines_of (line_at made.result) 0 line_count) (ap (λ (c : Case). lines_of (line_at c) 0 line_count) made.ensures) _ _ put.wrote put.upper_bound
    )

pub returns : goal.returns
unfolding record_answer
returns c =
    let args = c.args in
    rw c.no_room.ensures (
    unlined args.buffer.now args.at record_most (explained args.number args.file args.item) (sym c.has_room.ensures ∙ c.if-has_room.false)
    )
