-- `reading::is_whole` meets its contract. Assumes nothing.
use Rattle.std.proofs.Common.{refl, sym, ◌∙◌, eqb-true}
use Rattle.options.proofs.Passed.{none-whole}
use Rattle.options.specs.Asking.{is_whole}
use Rattle.options.proofs.reading.is_whole.Goals as goal

pub returns-then-is_empty : goal.returns-then-is_empty
unfolding is_whole
returns-then-is_empty c = none-whole c.args.words.now (eqb-true _ _ (sym c.is_empty.ensures ∙ c.if-is_empty.true))

pub returns : goal.returns
unfolding is_whole
returns c = refl
