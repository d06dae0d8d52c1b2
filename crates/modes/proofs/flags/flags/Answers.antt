-- `modes::flags::flags` meets its contract. Assumes nothing.
use mathlib.Core.Path.{sym, ap, ◌∙◌}
use mathlib.Core.Bool.{true, false}
use mathlib.Core.List.{[], ◌∷◌}
use Rattle.std.proofs.lemmas.Result.{err_from_is_err_and}
use Rattle.modes.specs.Form.{other_axis}
use Rattle.modes.specs.Scan.{Err, flagged, lit, pick, read_axis, read_flags, read_other, sync}
use Rattle.modes.proofs.Steps.{may-end, may_more}
use Rattle.modes.proofs.flags.flags.Goals as goal

pub returns-then-line-at : goal.returns-then-line-at
unfolding read_flags read_axis other_axis sync
returns-then-line-at c = sym (may-end c.args.line.now c.args.at c.args.mode (lit (0x20 ∷ []) (pick 0x2B 0x2D (read_axis c.args.mode false) (read_axis c.args.mode true))) c.if-line-at.true)

pub returns-in_err-at : goal.returns-in_err-at
unfolding read_flags read_axis other_axis sync
returns-in_err-at c =
    let p = err_from_is_err_and c.from_residual.result c.from_residual.ensures.1 in
    p.1 ∙ ap Err p.2 ∙ sym (may_more c.args.line.now c.args.at c.args.mode (lit (0x20 ∷ []) (pick 0x2B 0x2D (read_axis c.args.mode false) (read_axis c.args.mode true))) c.if-line-at.false ∙ c.in_err-at.ensures (λ u. (pick 0x2B 0x2D (read_axis c.args.mode false) (read_axis c.args.mode true))))

pub returns-in_err-minus : goal.returns-in_err-minus
unfolding read_flags read_axis other_axis sync
returns-in_err-minus c =
    let p = err_from_is_err_and c.from_residual-in_err-minus.result c.from_residual-in_err-minus.ensures.1 in
    p.1 ∙ ap Err p.2 ∙ sym (may_more c.args.line.now c.args.at c.args.mode (lit (0x20 ∷ []) (pick 0x2B 0x2D (read_axis c.args.mode false) (read_axis c.args.mode true))) c.if-line-at.false ∙ c.in_ok-at.ensures.same (λ u. (pick 0x2B 0x2D (read_axis c.args.mode false) (read_axis c.args.mode true))) ∙ c.in_err-minus.ensures (λ minus. read_axis c.args.mode minus))

pub returns-in_err-first : goal.returns-in_err-first
unfolding read_flags read_axis other_axis sync
returns-in_err-first c =
    let p = err_from_is_err_and c.from_residual-in_err-first.result c.from_residual-in_err-first.ensures.1 in
    p.1 ∙ ap Err p.2 ∙ sym (may_more c.args.line.now c.args.at c.args.mode (lit (0x20 ∷ []) (pick 0x2B 0x2D (read_axis c.args.mode false) (read_axis c.args.mode true))) c.if-line-at.false ∙ c.in_ok-at.ensures.same (λ u. (pick 0x2B 0x2D (read_axis c.args.mode false) (read_axis c.args.mode true))) ∙ c.in_ok-minus.ensures.same (λ minus. read_axis c.args.mode minus) ∙ c.in_err-first.ensures (λ axis. lit sync (read_other (other_axis axis) (flagged axis c.in_ok-minus.minus c.args.mode))))

pub returns-in_err-at-2 : goal.returns-in_err-at-2
unfolding read_flags read_axis other_axis sync
returns-in_err-at-2 c =
    let p = err_from_is_err_and c.from_residual-in_err-at-2.result c.from_residual-in_err-at-2.ensures.1 in
    p.1 ∙ ap Err p.2 ∙ sym (may_more c.args.line.now c.args.at c.args.mode (lit (0x20 ∷ []) (pick 0x2B 0x2D (read_axis c.args.mode false) (read_axis c.args.mode true))) c.if-line-at.false ∙ c.in_ok-at.ensures.same (λ u. (pick 0x2B 0x2D (read_axis c.args.mode false) (read_axis c.args.mode true))) ∙ c.in_ok-minus.ensures.same (λ minus. read_axis c.args.mode minus) ∙ c.in_ok-first.ensures.same (λ axis. lit sync (read_other (other_axis axis) (flagged axis c.in_ok-minus.minus c.args.mode))) ∙ c.in_err-at-2.ensures (λ u. read_other (other_axis c.in_ok-first.first) (flagged c.in_ok-first.first c.in_ok-minus.minus c.args.mode)))

pub returns : goal.returns
unfolding read_flags read_axis other_axis sync
returns c =
    c.other-2.ensures ∙ rw (c.flagged.ensures, c.other.ensures) (sym (may_more c.args.line.now c.args.at c.args.mode (lit (0x20 ∷ []) (pick 0x2B 0x2D (read_axis c.args.mode false) (read_axis c.args.mode true))) c.if-line-at.false ∙ c.in_ok-at.ensures.same (λ u. (pick 0x2B 0x2D (read_axis c.args.mode false) (read_axis c.args.mode true))) ∙ c.in_ok-minus.ensures.same (λ minus. read_axis c.args.mode minus) ∙ c.in_ok-first.ensures.same (λ axis. lit sync (read_other (other_axis axis) (flagged axis c.in_ok-minus.minus c.args.mode))) ∙ c.in_ok-at-2.ensures.same (λ u. read_other (other_axis c.in_ok-first.first) (flagged c.in_ok-first.first c.in_ok-minus.minus c.args.mode))))
