-- `reading::read_words` meets its contract. Assumes nothing.
use Rattle.std.proofs.Common.{refl, sym, ◌∙◌}
use Rattle.std.proofs.lemmas.Result.{err_from_is_err_and}
use Rattle.options.specs.Asking.{read_words}
use Rattle.options.proofs.Passed.{folded-wrong, none_passed, passed-byte, passed-word}
use Rattle.options.proofs.reading.read_words.Goals as goal
use Rattle.options.proofs.reading.read_words.Goals.{then-byte-eq0+in_ok-reading, else-byte-eq0}

pub loop-at-init : goal.loop-at-init
unfolding read_words
loop-at-init c = rw c.begun-reading.ensures refl

pub returns-in_err-reading : goal.returns-in_err-reading
returns-in_err-reading c =
    let p = err_from_is_err_and c.from_residual.result c.from_residual.ensures.1 in
    let here = c.loop-at in
    rw (p.1, p.2)
    (sym (folded-wrong c.args.words.now _ _)
    ∙ (rw (sym c.stepped.ensures ∙ c.in_err-reading.was) at (passed-word c.args.words.now here.reading here.start here.at c.loop-at-test.true c.if-byte-eq0.true))
    ∙ here.invariant)

pub loop-at-preserved : goal.loop-at-preserved
loop-at-preserved c =
    let words = c.args.words.now in
    let here = c.loop-at in
    elim c.if-byte-eq0.branch [
      | then-byte-eq0+in_ok-reading w ↦
          rw (w.reading-is, w.start-is)
          ((rw (sym w.stepped.ensures ∙ w.in_ok-reading.was) at
          (passed-word words here.reading here.start here.at c.loop-at-test.true w.if-byte-eq0.true)) ∙ here.invariant)
      | else-byte-eq0 w ↦
          rw (w.reading-is, w.start-is)
          (passed-byte words here.reading here.start here.at c.loop-at-test.true w.if-byte-eq0.false ∙ here.invariant)
    ]

pub returns : goal.returns
returns c =
    sym (none_passed c.args.words.now c.loop-at.reading c.loop-at.start c.loop-at.at c.loop-at-test.false) ∙ c.loop-at.invariant
