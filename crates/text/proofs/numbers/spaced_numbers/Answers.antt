-- `numbers::spaced_numbers` meets its contract. Assumes nothing.
use Prim.Native.Nat.{◌+◌}
use mathlib.Core.Path.{refl, sym, ◌∙◌}
use borrow.Author.Tests.{leb-true}
use lib.ListN.{length}
use Rattle.text.specs.Text.{spaced}
use Rattle.text.proofs.Stores.{no_room, room}
use Rattle.text.proofs.numbers.spaced_numbers.Goals as goal

pub spell_each-requires : goal.spell_each-requires
spell_each-requires c =
    let args = c.args in
    leb-true (args.at + length (spaced args.minus.now args.numbers.now)) (length args.buffer.now) (sym c.all_fit.ensures ∙ c.if-all_fit.true)

pub returns-then-all_fit : goal.returns-then-all_fit
returns-then-all_fit c =
    let args = c.args in
    rw c.stored.ensures (
    room args.buffer.now args.at (spaced args.minus.now args.numbers.now) refl (sym c.all_fit.ensures ∙ c.if-all_fit.true) c.spell_each.ensures
    )

pub returns : goal.returns
returns c =
    let args = c.args in
    rw c.no_room.ensures (
    no_room args.buffer.now args.at (spaced args.minus.now args.numbers.now) refl (sym c.all_fit.ensures ∙ c.if-all_fit.false)
    )
