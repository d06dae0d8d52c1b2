-- `escaped` meets its contract. Assumes nothing.
use Prim.Native.Nat.{◌+◌}
use mathlib.Core.Path.{refl, sym, ◌∙◌}
use borrow.Author.Tests.{leb-true}
use lib.ListN.{length}
use Rattle.text.proofs.Stores.{no_room, room}
use Rattle.escaping.specs.Escaped.{escaped_text}
use Rattle.escaping.proofs.escaped.Goals as goal

pub put_text-requires : goal.put_text-requires
put_text-requires c =
    let args = c.args in
    leb-true (args.at + length (escaped_text args.bytes.now)) (length args.buffer.now) (sym c.has_room.ensures ∙ c.if-has_room.true)

pub returns-then-has_room : goal.returns-then-has_room
returns-then-has_room c =
    let args = c.args in
    rw c.stored.ensures (
    room args.buffer.now args.at (escaped_text args.bytes.now) refl (sym c.has_room.ensures ∙ c.if-has_room.true)
    c.put_text.ensures
    )

pub returns : goal.returns
returns c =
    let args = c.args in
    rw c.no_room.ensures (
    no_room args.buffer.now args.at (escaped_text args.bytes.now) refl (sym c.has_room.ensures ∙ c.if-has_room.false)
    )
