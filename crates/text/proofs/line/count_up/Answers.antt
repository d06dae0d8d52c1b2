-- `line::count_up` meets its contract. Assumes nothing.
use native.Mathlib.Omega.{arith}
use Rattle.text.specs.Counted.{Next}
use Rattle.text.proofs.Counted.{some-places, spelled-anew}
use Rattle.text.proofs.line.count_up.Goals as goal

pub returns-then-last-lt57 : goal.returns-then-last-lt57
unfolding Next
returns-then-last-lt57 c = record {
  result_nonzero = c.requires.size_nonzero;
  spells = c.requires.next c.if-last-lt57.true;
}

pub returns : goal.returns
returns c = record {
  result_nonzero = omega (arith, some-places c.args.number);
  spells = spelled-anew c.args.number _ _ c.places-size.result _ c.places-size.ensures.0 (omega arith) c.spell.ensures;
}
