use mathlib.Core.Path.{refl, ◌∙◌}
use lib.Seq.{take_all}
use Rattle.text.specs.Text.{spaced}
use Rattle.mode_lines.proofs.Laying.{kept_then, kept-none, kept-length}
use Rattle.mode_lines.proofs.Spelling.{spaced-next}
use Rattle.mode_lines.proofs.reporting.put_each.Goals as goal

pub loop-n-init : goal.loop-n-init
unfolding spaced
loop-n-init c = (kept-none _ _ c.keep-at.ensures.prefix_len.0, refl)

pub loop-n-preserved : goal.loop-n-preserved
loop-n-preserved c =
    let here = c.loop-n in
    let put = c.put_behind-at in (
      rw (spaced-next c.args.numbers.now here.n-index c.loop-n-test.true) at (kept_then here.invariant.0 (rw c.from.ensures at put.ensures)),
      kept-length put.ensures ∙ here.invariant.1,
    )

pub returns : goal.returns
returns c =
    let here = c.loop-n in
    rw (take_all here.n-index c.args.numbers.now c.loop-n-test.false) at (kept_then c.keep-at.ensures.kept here.invariant.0)
