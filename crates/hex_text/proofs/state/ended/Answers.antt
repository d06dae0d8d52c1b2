-- `ended` meets its contract, arm by arm. Assumes nothing.
use mathlib.Core.Path.{sym, ap, ◌∙◌}
use Rattle.hex_text.specs.declared.state.Stand.{Stand}
use Rattle.hex_text.specs.Machine.{ended, ended_by}
use Rattle.hex_text.proofs.state.ended.Goals as goal

pub returns-in-Between : goal.returns-in-Between
unfolding ended ended_by
returns-in-Between c = c.line_over.ensures ∙ ap (λ (at : Stand). ended_by at c.args.before) (sym c.in-Between.is)

pub returns-in-Digit : goal.returns-in-Digit
unfolding ended ended_by
returns-in-Digit c = c.standing_at.ensures ∙ ap (λ (at : Stand). ended_by at c.args.before) (sym c.in-Digit.is)

pub returns-in-Byte : goal.returns-in-Byte
unfolding ended ended_by
returns-in-Byte c = c.line_over-in-Byte.ensures ∙ ap (λ (at : Stand). ended_by at c.args.before) (sym c.in-Byte.is)

pub returns-in-ByteReturn : goal.returns-in-ByteReturn
unfolding ended ended_by
returns-in-ByteReturn c = c.line_over-in-ByteReturn.ensures ∙ ap (λ (at : Stand). ended_by at c.args.before) (sym c.in-ByteReturn.is)

pub returns-in-Return : goal.returns-in-Return
unfolding ended ended_by
returns-in-Return c = c.line_over-in-Return.ensures ∙ ap (λ (at : Stand). ended_by at c.args.before) (sym c.in-Return.is)

pub returns-in-Comment : goal.returns-in-Comment
unfolding ended ended_by
returns-in-Comment c = c.line_over-in-Comment.ensures ∙ ap (λ (at : Stand). ended_by at c.args.before) (sym c.in-Comment.is)

pub returns-in-Bad : goal.returns-in-Bad
unfolding ended ended_by
returns-in-Bad c = c.standing_at-in-Bad.ensures ∙ ap (λ (at : Stand). ended_by at c.args.before) (sym c.in-Bad.is)
