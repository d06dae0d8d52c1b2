-- `putting::put_number` meets its contract. Assumes nothing.
use Rattle.std.proofs.Common.{◌+◌, length, refl, sym, ◌∙◌, arith, leb-true, leb-false}
use Rattle.text.specs.Text.{decimal, decimal_places}
use Rattle.text.proofs.Spelled.{digits-length}
use Rattle.text.proofs.putting.put_number.Goals as goal

pub spell-requires : goal.spell-requires
spell-requires c =
    let args = c.args in
    leb-true (args.at + c.places-size.result) (length args.buffer.now) (sym c.has_room.ensures ∙ c.if-has_room.true)

pub returns-then-has_room : goal.returns-then-has_room
unfolding decimal
returns-then-has_room c =
    let args = c.args in
    let fit = leb-true (args.at + c.places-size.result) (length args.buffer.now) (sym c.has_room.ensures ∙ c.if-has_room.true) in
    let long = digits-length (decimal_places args.n args.n) args.n in
    record { stored = λ h. rw c.places-size.ensures.0 at c.spell.ensures; unstored = λ h. absurd (omega (arith, h, long, c.places-size.ensures.0, fit)) }

pub returns : goal.returns
unfolding decimal
returns c =
    let args = c.args in
    let none = leb-false (args.at + c.places-size.result) (length args.buffer.now) (sym c.has_room.ensures ∙ c.if-has_room.false) in
    let long = digits-length (decimal_places args.n args.n) args.n in
    record { stored = λ h. absurd (omega (arith, h, long, c.places-size.ensures.0, none)); unstored = λ h. (refl, refl) }
