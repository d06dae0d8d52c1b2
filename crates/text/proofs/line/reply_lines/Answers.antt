-- `line::reply_lines` meets its contract. Assumes nothing.
use Prim.Native.Nat.{ℕ, ◌+◌, ◌≤◌}
use mathlib.Core.Bool.{true}
use mathlib.Core.Path.{◌≡◌, refl, sym, ◌∙◌}
use native.Mathlib.Omega.{arith}
use borrow.Author.Tests.{leb-true, not-false, not-true}
use Rattle.file.specs.declared.answer.Answer.TheVariants.{OutOfRange}
use Rattle.file.specs.Answers.{code_of, refused}
use Rattle.text.specs.Text.{all_lines, lines_answer, numbers_fit}
use Rattle.text.proofs.Stores.{no_room, room, unplaced}
use Rattle.text.proofs.line.reply_lines.Goals as goal

fitted : (number count : ℕ) → numbers_fit number count ≡ true → number + count ≤ 18446744073709551616
unfolding numbers_fit
fitted number count e = leb-true _ _ e

pub returns-then-not-numbers_fit : goal.returns-then-not-numbers_fit
unfolding lines_answer refused code_of
returns-then-not-numbers_fit c =
    let args = c.args in
    unplaced args.buffer.now args.at (all_lines args.number args.replies.now) OutOfRange (rw (sym c.numbers_fit.ensures ∙ not-true _ c.if-not-numbers_fit.true-raw) refl) refl

pub lines_fit-requires : goal.lines_fit-requires
lines_fit-requires c = record {
  count_in_bounds = omega arith;
  count_bound = fitted _ _ (sym c.numbers_fit.ensures ∙ not-false _ c.if-not-numbers_fit.false-raw);
}

pub lines-requires : goal.lines-requires
lines-requires c = record {
  count_in_bounds = omega arith;
  replies_in_bounds = leb-true _ _ (sym c.lines_fit.ensures ∙ c.if-lines_fit.true);
  count_bound = fitted _ _ (sym c.numbers_fit.ensures ∙ not-false _ c.if-not-numbers_fit.false-raw);
}

pub returns-then-lines_fit : goal.returns-then-lines_fit
unfolding lines_answer all_lines
returns-then-lines_fit c =
    let args = c.args in
    rw c.stored.ensures (
    rw (sym c.numbers_fit.ensures ∙ not-false _ c.if-not-numbers_fit.false-raw)
    (room args.buffer.now args.at (all_lines args.number args.replies.now) refl (sym c.lines_fit.ensures ∙ c.if-lines_fit.true) c.lines.ensures)
    )

pub returns : goal.returns
unfolding lines_answer all_lines
returns c =
    let args = c.args in
    rw c.no_room.ensures (
    rw (sym c.numbers_fit.ensures ∙ not-false _ c.if-not-numbers_fit.false-raw)
    (no_room args.buffer.now args.at (all_lines args.number args.replies.now) refl (sym c.lines_fit.ensures ∙ c.if-lines_fit.false))
    )
