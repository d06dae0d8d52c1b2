-- `numbers::line_fits` meets its contract. Assumes nothing.
use Prim.Native.Nat.{◌+◌, ◌-◌}
use mathlib.Core.Path.{sym, ◌∙◌}
use native.Mathlib.Omega.{arith}
use borrow.Author.Tests.{leb-false, leb-true, lt-leb}
use lib.ListN.{length}
use Rattle.text.specs.Text.{numbers_line, spaced}
use Rattle.text.proofs.Spaced.{numbers-length}
use Rattle.text.proofs.Tests.{same_test}
use Rattle.text.proofs.numbers.line_fits.Goals as goal

pub overflow_sub-room : goal.overflow_sub-room
overflow_sub-room c =
    let args = c.args in
    omega (arith, leb-true (args.at + (length args.word.now + 1)) args.room (sym c.has_room.ensures ∙ c.if-has_room.true))

pub overflow_sub-room-then-has_room : goal.overflow_sub-room-then-has_room
overflow_sub-room-then-has_room c =
    let args = c.args in
    omega (arith, leb-true (args.at + (length args.word.now + 1)) args.room (sym c.has_room.ensures ∙ c.if-has_room.true))

pub returns-then-has_room : goal.returns-then-has_room
returns-then-has_room c =
    let args = c.args in
    let around = length args.word.now + 1 in
    let fit = leb-true (args.at + around) args.room (sym c.has_room.ensures ∙ c.if-has_room.true) in
    let long = numbers-length args.word.now args.minus.now args.numbers.now in
    c.spaced_fit.ensures
    ∙ same_test (length (spaced args.minus.now args.numbers.now)) (args.room - around - args.at) (args.at + length (numbers_line args.word.now args.minus.now args.numbers.now)) args.room (λ h. omega arith) (λ h. omega arith)

pub returns : goal.returns
returns c =
    let args = c.args in
    let around = length args.word.now + 1 in
    let none = leb-false (args.at + around) args.room (sym c.has_room.ensures ∙ c.if-has_room.false) in
    let long = numbers-length args.word.now args.minus.now args.numbers.now in
    rw (lt-leb (args.at + length (numbers_line args.word.now args.minus.now args.numbers.now)) args.room (omega arith))
