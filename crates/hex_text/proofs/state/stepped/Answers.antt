-- `stepped` meets its contract, arm by arm. Assumes nothing.
use mathlib.Core.Path.{sym, ap, ◌∙◌}
use Rattle.hex_text.specs.declared.state.Stand.{Stand}
use Rattle.hex_text.specs.Machine.{stepped, stepped_by}
use Rattle.hex_text.proofs.state.stepped.Goals as goal

pub returns-in-Between : goal.returns-in-Between
unfolding stepped stepped_by
returns-in-Between c =
    let args = c.args in
    c.after_blank.ensures ∙ ap (λ (at : Stand). stepped_by at args.before args.byte) (sym c.in-Between.is)

pub returns-in-Digit : goal.returns-in-Digit
unfolding stepped stepped_by
returns-in-Digit c =
    let args = c.args in
    c.after_digit.ensures ∙ ap (λ (at : Stand). stepped_by at args.before args.byte) (sym c.in-Digit.is)

pub returns-in-Byte : goal.returns-in-Byte
unfolding stepped stepped_by
returns-in-Byte c =
    let args = c.args in
    c.separated.ensures ∙ ap (λ (at : Stand). stepped_by at args.before args.byte) (sym c.in-Byte.is)

pub returns-in-ByteReturn : goal.returns-in-ByteReturn
unfolding stepped stepped_by
returns-in-ByteReturn c =
    let args = c.args in
    c.line_ended.ensures ∙ ap (λ (at : Stand). stepped_by at args.before args.byte) (sym c.in-ByteReturn.is)

pub returns-in-Return : goal.returns-in-Return
unfolding stepped stepped_by
returns-in-Return c =
    let args = c.args in
    c.line_ended-in-Return.ensures ∙ ap (λ (at : Stand). stepped_by at args.before args.byte) (sym c.in-Return.is)

pub returns-in-Comment : goal.returns-in-Comment
unfolding stepped stepped_by
returns-in-Comment c =
    let args = c.args in
    c.line_ended-in-Comment.ensures ∙ ap (λ (at : Stand). stepped_by at args.before args.byte) (sym c.in-Comment.is)

pub returns-in-Bad : goal.returns-in-Bad
unfolding stepped stepped_by
returns-in-Bad c =
    let args = c.args in
    c.standing_at.ensures ∙ ap (λ (at : Stand). stepped_by at args.before args.byte) (sym c.in-Bad.is)
