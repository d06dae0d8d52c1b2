-- `putting::put_behind` meets its contract. Assumes nothing.
use Rattle.std.proofs.Common.{◌≡◌, ◌+◌, ℕ, List, ◌++◌, length, length-append, refl, sym, ◌∙◌, arith, leb-true, leb-false}
use Rattle.text.specs.Text.{decimal, decimal_places}
use Rattle.text.proofs.Spelled.{digits-length}
use Rattle.text.proofs.Stores.{then-text}
use Rattle.text.proofs.putting.put_behind.Goals as goal

-- how long a word and a number are together
both : (word : List ℕ) (n : ℕ) → length (word ++ decimal n) ≡ length word + decimal_places n n
unfolding decimal
both word n = omega (arith, length-append word (decimal n), digits-length (decimal_places n n) n)

pub store-end-requires : goal.store-end-requires
store-end-requires c =
    let args = c.args in
    let fit = leb-true (args.at + (length args.word.now + c.places-size.result)) (length args.buffer.now) (sym c.has_room.ensures ∙ c.if-has_room.true) in
    omega (arith, fit)

pub spell-requires : goal.spell-requires
spell-requires c =
    let args = c.args in
    let fit = leb-true (args.at + (length args.word.now + c.places-size.result)) (length args.buffer.now) (sym c.has_room.ensures ∙ c.if-has_room.true) in
    omega (arith, fit, c.store-end.ensures.place)

pub returns-then-has_room : goal.returns-then-has_room
unfolding decimal
returns-then-has_room c =
    let args = c.args in
    let fit = leb-true (args.at + (length args.word.now + c.places-size.result)) (length args.buffer.now) (sym c.has_room.ensures ∙ c.if-has_room.true) in
    record {
      stored = λ h. then-text c.store-end.ensures (rw c.places-size.ensures.0 at c.spell.ensures);
      unstored = λ h. absurd (omega (arith, h, both args.word.now args.n, c.places-size.ensures.0, fit));
    }

pub returns : goal.returns
returns c =
    let args = c.args in
    let none = leb-false (args.at + (length args.word.now + c.places-size.result)) (length args.buffer.now) (sym c.has_room.ensures ∙ c.if-has_room.false) in
    record { stored = λ h. absurd (omega (arith, h, both args.word.now args.n, c.places-size.ensures.0, none)); unstored = λ h. (refl, refl) }
