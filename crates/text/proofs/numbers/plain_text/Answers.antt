-- `numbers::plain_text` meets its contract. Assumes nothing.
use Prim.Native.Nat.{◌+◌}
use mathlib.Core.Path.{refl, sym, ◌∙◌}
use borrow.Author.Tests.{leb-true}
use lib.ListN.{length}
use Rattle.text.proofs.Stores.{no_room, room}
use Rattle.text.proofs.numbers.plain_text.Goals as goal

pub store-requires : goal.store-requires
store-requires c =
    let args = c.args in
    leb-true (args.at + length args.text.now) (length args.buffer.now) (sym c.has_room.ensures ∙ c.if-has_room.true)

pub returns-then-has_room : goal.returns-then-has_room
returns-then-has_room c =
    let args = c.args in
    rw c.stored.ensures (
    room args.buffer.now args.at args.text.now refl (sym c.has_room.ensures ∙ c.if-has_room.true) c.store.ensures
    )

pub returns : goal.returns
returns c =
    let args = c.args in
    rw c.no_room.ensures (
    no_room args.buffer.now args.at args.text.now refl (sym c.has_room.ensures ∙ c.if-has_room.false)
    )
