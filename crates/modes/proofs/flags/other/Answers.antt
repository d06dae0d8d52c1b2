-- `modes::flags::other` meets its contract. Assumes nothing.
use Prim.Native.Nat.{ℕ, ◌+◌}
use mathlib.Core.List.{List}
use mathlib.Core.Path.{subst, sym, ap, ◌∙◌}
use mathlib.Core.Bool.{true, false}
use mathlib.Core.List.{[], ◌∷◌}
use Rattle.std.proofs.lemmas.Result.{err_from_is_err_and}
use Rattle.modes.specs.Form.{letter}
use Rattle.modes.specs.Scan.{Ok, Err, Passes, Stops, read_word, at_end, flagged, lit, pick, read_other, sync}
use Rattle.modes.proofs.Steps.{may-end, may_more, end-there, end-not}
use Rattle.modes.proofs.flags.other.Goals as goal

pub returns-then-line-at : goal.returns-then-line-at
unfolding read_other
returns-then-line-at c = sym (may-end c.args.line.now c.args.at c.args.mode (lit (0x20 ∷ []) (pick 0x2B 0x2D (lit (letter c.args.axis ∷ sync) (at_end (flagged c.args.axis false c.args.mode))) (lit (letter c.args.axis ∷ sync) (at_end (flagged c.args.axis true c.args.mode))))) c.if-line-at.true)

pub returns-in_err-at : goal.returns-in_err-at
unfolding read_other
returns-in_err-at c =
    let p = err_from_is_err_and c.from_residual.result c.from_residual.ensures.1 in
    p.1 ∙ ap Err p.2 ∙ sym (may_more c.args.line.now c.args.at c.args.mode (lit (0x20 ∷ []) (pick 0x2B 0x2D (lit (letter c.args.axis ∷ sync) (at_end (flagged c.args.axis false c.args.mode))) (lit (letter c.args.axis ∷ sync) (at_end (flagged c.args.axis true c.args.mode))))) c.if-line-at.false ∙ c.in_err-at.ensures (λ u. (pick 0x2B 0x2D (lit (letter c.args.axis ∷ sync) (at_end (flagged c.args.axis false c.args.mode))) (lit (letter c.args.axis ∷ sync) (at_end (flagged c.args.axis true c.args.mode))))))

pub returns-in_err-minus : goal.returns-in_err-minus
unfolding read_other
returns-in_err-minus c =
    let p = err_from_is_err_and c.from_residual-in_err-minus.result c.from_residual-in_err-minus.ensures.1 in
    p.1 ∙ ap Err p.2 ∙ sym (may_more c.args.line.now c.args.at c.args.mode (lit (0x20 ∷ []) (pick 0x2B 0x2D (lit (letter c.args.axis ∷ sync) (at_end (flagged c.args.axis false c.args.mode))) (lit (letter c.args.axis ∷ sync) (at_end (flagged c.args.axis true c.args.mode))))) c.if-line-at.false ∙ c.in_ok-at.ensures.same (λ u. (pick 0x2B 0x2D (lit (letter c.args.axis ∷ sync) (at_end (flagged c.args.axis false c.args.mode))) (lit (letter c.args.axis ∷ sync) (at_end (flagged c.args.axis true c.args.mode))))) ∙ c.in_err-minus.ensures (λ minus. lit (letter c.args.axis ∷ sync) (at_end (flagged c.args.axis minus c.args.mode))))

pub returns-in_err-at-2 : goal.returns-in_err-at-2
unfolding read_other
returns-in_err-at-2 c =
    let p = err_from_is_err_and c.from_residual-in_err-at-2.result c.from_residual-in_err-at-2.ensures.1 in
    p.1 ∙ ap Err p.2 ∙ sym (may_more c.args.line.now c.args.at c.args.mode (lit (0x20 ∷ []) (pick 0x2B 0x2D (lit (letter c.args.axis ∷ sync) (at_end (flagged c.args.axis false c.args.mode))) (lit (letter c.args.axis ∷ sync) (at_end (flagged c.args.axis true c.args.mode))))) c.if-line-at.false ∙ c.in_ok-at.ensures.same (λ u. (pick 0x2B 0x2D (lit (letter c.args.axis ∷ sync) (at_end (flagged c.args.axis false c.args.mode))) (lit (letter c.args.axis ∷ sync) (at_end (flagged c.args.axis true c.args.mode))))) ∙ c.in_ok-minus.ensures.same (λ minus. lit (letter c.args.axis ∷ sync) (at_end (flagged c.args.axis minus c.args.mode))) ∙ subst (λ (w : List ℕ). Stops (read_word w) c.args.line.now (c.in_ok-at.at + 1) c.in_err-at-2.field-0.0) c.word-2.ensures c.in_err-at-2.ensures (λ u. at_end (flagged c.args.axis c.in_ok-minus.minus c.args.mode)))

pub returns-then-at-line : goal.returns-then-at-line
unfolding read_other
returns-then-at-line c =
    sym (may_more c.args.line.now c.args.at c.args.mode (lit (0x20 ∷ []) (pick 0x2B 0x2D (lit (letter c.args.axis ∷ sync) (at_end (flagged c.args.axis false c.args.mode))) (lit (letter c.args.axis ∷ sync) (at_end (flagged c.args.axis true c.args.mode))))) c.if-line-at.false ∙ c.in_ok-at.ensures.same (λ u. (pick 0x2B 0x2D (lit (letter c.args.axis ∷ sync) (at_end (flagged c.args.axis false c.args.mode))) (lit (letter c.args.axis ∷ sync) (at_end (flagged c.args.axis true c.args.mode))))) ∙ c.in_ok-minus.ensures.same (λ minus. lit (letter c.args.axis ∷ sync) (at_end (flagged c.args.axis minus c.args.mode))) ∙ (subst (λ (w : List ℕ). Passes (read_word w) c.args.line.now (c.in_ok-at.at + 1) tt c.in_ok-at-2.at) c.word-2.ensures c.in_ok-at-2.ensures).same (λ u. at_end (flagged c.args.axis c.in_ok-minus.minus c.args.mode)) ∙ end-not c.args.line.now _ (flagged c.args.axis c.in_ok-minus.minus c.args.mode) c.if-at-line.true)

pub returns : goal.returns
unfolding read_other
returns c =
    ap Ok c.flagged.ensures
    ∙ sym (may_more c.args.line.now c.args.at c.args.mode (lit (0x20 ∷ []) (pick 0x2B 0x2D (lit (letter c.args.axis ∷ sync) (at_end (flagged c.args.axis false c.args.mode))) (lit (letter c.args.axis ∷ sync) (at_end (flagged c.args.axis true c.args.mode))))) c.if-line-at.false ∙ c.in_ok-at.ensures.same (λ u. (pick 0x2B 0x2D (lit (letter c.args.axis ∷ sync) (at_end (flagged c.args.axis false c.args.mode))) (lit (letter c.args.axis ∷ sync) (at_end (flagged c.args.axis true c.args.mode))))) ∙ c.in_ok-minus.ensures.same (λ minus. lit (letter c.args.axis ∷ sync) (at_end (flagged c.args.axis minus c.args.mode))) ∙ (subst (λ (w : List ℕ). Passes (read_word w) c.args.line.now (c.in_ok-at.at + 1) tt c.in_ok-at-2.at) c.word-2.ensures c.in_ok-at-2.ensures).same (λ u. at_end (flagged c.args.axis c.in_ok-minus.minus c.args.mode)) ∙ end-there c.args.line.now _ (flagged c.args.axis c.in_ok-minus.minus c.args.mode) c.if-at-line.false)
