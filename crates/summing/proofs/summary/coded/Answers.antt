-- `summary::coded` meets its contract. Assumes nothing.
use mathlib.Core.Path.{refl}
use Rattle.summing.specs.Summed.{coded}
use Rattle.summing.proofs.Counts.{no_code}
use Rattle.summing.proofs.Typed.{codes-count}
use Rattle.summing.proofs.summary.coded.Goals as goal

pub returns-then-code-ge-CODES : goal.returns-then-code-ge-CODES
returns-then-code-ge-CODES c =
    let args = c.args in
    no_code args.summary args.code (codes-count args.summary _ c.well_formed.0) c.if-code-ge-CODES.true

pub returns : goal.returns
unfolding coded
returns c = rw c.more.ensures refl
