-- `numbers::numbers_line` meets its contract. Assumes nothing.
use Prim.Native.Nat.{◌+◌}
use mathlib.Core.Path.{refl, sym, ◌∙◌}
use native.Mathlib.Omega.{arith}
use borrow.Author.Tests.{leb-true, not-false, not-true}
use lib.ListN.{length}
use Rattle.text.specs.Text.{newline, numbers_line}
use Rattle.text.proofs.Spaced.{numbers-length}
use Rattle.text.proofs.Stores.{no_room, room, then-text}
use Rattle.text.proofs.numbers.numbers_line.Goals as goal

pub returns-then-not-line_fits : goal.returns-then-not-line_fits
returns-then-not-line_fits c =
    let args = c.args in
    rw c.no_room.ensures (
    no_room args.buffer.now args.at (numbers_line args.word.now args.minus.now args.numbers.now) refl (sym c.line_fits.ensures ∙ not-true _ c.if-not-line_fits.true-raw)
    )

pub store-at-requires : goal.store-at-requires
store-at-requires c =
    let args = c.args in
    let fit = leb-true (args.at + length (numbers_line args.word.now args.minus.now args.numbers.now)) (length args.buffer.now) (sym c.line_fits.ensures ∙ not-false _ c.if-not-line_fits.false-raw) in
    let long = numbers-length args.word.now args.minus.now args.numbers.now in
    omega arith

pub spell_each-at-requires : goal.spell_each-at-requires
spell_each-at-requires c =
    let args = c.args in
    let fit = leb-true (args.at + length (numbers_line args.word.now args.minus.now args.numbers.now)) (length args.buffer.now) (sym c.line_fits.ensures ∙ not-false _ c.if-not-line_fits.false-raw) in
    let long = numbers-length args.word.now args.minus.now args.numbers.now in
    omega arith

pub byte-requires : goal.byte-requires
byte-requires c =
    let args = c.args in
    let fit = leb-true (args.at + length (numbers_line args.word.now args.minus.now args.numbers.now)) (length args.buffer.now) (sym c.line_fits.ensures ∙ not-false _ c.if-not-line_fits.false-raw) in
    let long = numbers-length args.word.now args.minus.now args.numbers.now in
    omega arith

pub returns : goal.returns
unfolding newline numbers_line
returns c =
    let args = c.args in
    let wrote =
    then-text (then-text c.store-at.ensures c.spell_each-at.ensures) c.byte.ensures in
    rw c.stored.ensures (
    room args.buffer.now args.at (numbers_line args.word.now args.minus.now args.numbers.now) refl (sym c.line_fits.ensures ∙ not-false _ c.if-not-line_fits.false-raw) wrote
    )
