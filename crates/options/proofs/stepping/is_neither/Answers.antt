-- `stepping::is_neither` meets its contract. Assumes nothing.
use Rattle.std.proofs.Common.{◌∙◌}
use Rattle.options.specs.Steps.{is_neither}
use Rattle.options.proofs.SameTexts.{not-same, told-alike, told-differs}
use Rattle.options.proofs.stepping.is_neither.Goals as goal

pub returns-then-ne : goal.returns-then-ne
unfolding is_neither
returns-then-ne c =
    let args = c.args in
    rw (told-differs args.word.now args.a.now c.ne.ensures c.if-ne.true) (c.ne-then-ne.ensures ∙ not-same args.word.now args.b.now)

pub returns-else-ne : goal.returns-else-ne
unfolding is_neither
returns-else-ne c = let args = c.args in rw (told-alike args.word.now args.a.now c.ne.ensures c.if-ne.false) c.if-ne.false
