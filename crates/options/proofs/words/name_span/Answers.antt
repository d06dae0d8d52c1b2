-- `words::name_span` meets its contract. Assumes nothing.
use native.Mathlib.Omega.{arith}
use Rattle.options.proofs.Parts.{name-within}
use Rattle.options.specs.Words.{name_span}
use Rattle.options.proofs.words.name_span.Goals as goal

pub overflow_add-result : goal.overflow_add-result
overflow_add-result c =
    let words = c.args.words.now in
    let span = c.args.span in
    omega (arith, rw c.part.ensures at c.name_size-size.ensures, name-within words span)

pub returns : goal.returns
unfolding name_span
returns c = rw ((rw c.part.ensures at c.name_size-size.ensures))
