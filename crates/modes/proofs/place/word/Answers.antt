use mathlib.Core.Path.{sym, ◌∙◌}
use native.Mathlib.Omega.{arith}
use lib.ListN.{length}
use Rattle.modes.proofs.Loops.{matching, matching-next, matching-off, matching-end}
use Rattle.modes.proofs.StagesRead.{word-short, word-full}
use Rattle.modes.proofs.place.word.Goals as goal

pub loop-n-init : goal.loop-n-init
loop-n-init c = matching c.args.line.now c.args.word.now c.args.at c.requires

pub returns-then-not-is_at : goal.returns-then-not-is_at
returns-then-not-is_at c =
    let here = c.loop-n in
    let args = c.args in
    λ k. word-short args.line.now args.at args.word.now (k tt) here.n
    (matching-off args.line.now args.word.now args.at here.n here.invariant c.loop-n-test.true (sym c.is_at.ensures.value ∙ c.if-not-is_at.true))
    c.loop-n-test.true

pub loop-n-preserved : goal.loop-n-preserved
loop-n-preserved c =
    let here = c.loop-n in
    let args = c.args in
    matching-next args.line.now args.word.now args.at here.n here.invariant c.loop-n-test.true (sym c.is_at.ensures.value ∙ c.if-not-is_at.false)

pub returns : goal.returns
returns c =
    let here = c.loop-n in
    let args = c.args in
    let full = length args.word.now in
    record {
      within = omega (arith, here.invariant.fits, c.loop-n-test.false);
      same =
          λ k. word-full args.line.now args.at args.word.now (k tt) here.n
          (matching-end args.line.now args.word.now args.at here.n here.invariant c.loop-n-test.false) c.loop-n-test.false;
    }
