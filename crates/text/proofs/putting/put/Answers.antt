-- `putting::put` meets its contract. Assumes nothing.
use Rattle.std.proofs.Common.{◌+◌, length, refl, sym, ◌∙◌, arith, leb-true, leb-false}
use Rattle.text.proofs.putting.put.Goals as goal

pub store-requires : goal.store-requires
store-requires c =
    let args = c.args in
    leb-true (args.at + length args.text.now) (length args.buffer.now) (sym c.has_room.ensures ∙ c.if-has_room.true)

pub returns-then-has_room : goal.returns-then-has_room
returns-then-has_room c =
    let args = c.args in
    let fit = leb-true (args.at + length args.text.now) (length args.buffer.now) (sym c.has_room.ensures ∙ c.if-has_room.true) in
    record { stored = λ h. c.store.ensures; unstored = λ h. absurd (omega (arith, h, fit)) }

pub returns : goal.returns
returns c =
    let args = c.args in
    let none = leb-false (args.at + length args.text.now) (length args.buffer.now) (sym c.has_room.ensures ∙ c.if-has_room.false) in
    record { stored = λ h. absurd (omega (arith, h, none)); unstored = λ h. (refl, refl) }
