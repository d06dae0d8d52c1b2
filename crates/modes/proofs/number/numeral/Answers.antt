-- `modes::number::numeral` meets its contract. Assumes nothing.
use Rattle.modes.proofs.StagesRead.{token-none, token-some}
use Rattle.modes.proofs.number.numeral.Goals as goal

pub returns-then-read-most-clause-value : goal.returns-then-read-most-clause-value
returns-then-read-most-clause-value c =
    λ k. token-none c.args.line.now c.args.at c.args.most k c.digits-read.result c.digits-read.ensures.value c.if-read-most.true

pub returns-clause-value : goal.returns-clause-value
returns-clause-value c =
    record {
      within = c.digits-read.ensures.end_in_bounds;
      same = λ k. token-some c.args.line.now c.args.at c.args.most k c.digits-read.result c.digits-read.ensures.value c.if-read-most.false;
    }
