-- `explain::place_line` meets its contract. Assumes nothing.
use Prim.Native.Nat.{◌+◌}
use mathlib.Core.Path.{refl, sym, ◌∙◌}
use borrow.Author.Tests.{leb-true}
use lib.ListN.{length}
use Rattle.explaining.specs.Lines.{line_room, line_text}
use Rattle.explaining.proofs.RoomLined.{lined, unlined}
use Rattle.explaining.proofs.explain.place_line.Goals as goal

pub put_line-requires : goal.put_line-requires
put_line-requires c =
    let args = c.args in
    leb-true (args.at + line_room) (length args.buffer.now) (sym c.has_room.ensures ∙ c.if-has_room.true)

pub returns-then-has_room : goal.returns-then-has_room
returns-then-has_room c =
    let args = c.args in
    let put = c.put_line.ensures in
    rw c.stored.ensures (
    lined args.buffer.now args.at line_room (line_text args.line) (sym c.has_room.ensures ∙ c.if-has_room.true)
    (line_text args.line) refl _ _ put.wrote put.upper_bound
    )

pub returns : goal.returns
returns c =
    let args = c.args in
    rw c.no_room.ensures (
    unlined args.buffer.now args.at line_room (line_text args.line) (sym c.has_room.ensures ∙ c.if-has_room.false)
    )
