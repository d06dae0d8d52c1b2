-- `line::record_line` meets its contract. Assumes nothing.
use Prim.Native.Nat.{◌+◌}
use mathlib.Core.Path.{sym, ◌∙◌}
use native.Mathlib.Omega.{arith}
use borrow.Author.Tests.{leb-true}
use lib.ListN.{length}
use Rattle.text.specs.Text.{line_of}
use Rattle.text.proofs.Stores.{no_room, room}
use Rattle.text.proofs.line.record_line.Goals as goal

pub line-requires : goal.line-requires
line-requires c =
    let args = c.args in
    omega (arith, c.line_size.ensures args.value, leb-true (args.at + c.line_size.result) (length args.buffer.now) (sym c.has_room.ensures ∙ c.if-has_room.true))

pub returns-then-has_room : goal.returns-then-has_room
returns-then-has_room c =
    let args = c.args in
    rw c.stored.ensures (
    room args.buffer.now args.at (line_of args.number args.code args.value) (c.line_size.ensures args.value) (sym c.has_room.ensures ∙ c.if-has_room.true) c.line.ensures
    )

pub returns : goal.returns
returns c =
    let args = c.args in
    rw c.no_room.ensures (
    no_room args.buffer.now args.at (line_of args.number args.code args.value) (c.line_size.ensures args.value) (sym c.has_room.ensures ∙ c.if-has_room.false)
    )
