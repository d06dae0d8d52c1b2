-- `chosen_by` meets its contract. Assumes nothing.
use Rattle.std.proofs.Common.{refl, arith}
use borrow.Author.Tests.{le-leb, lt-leb, ne_eqb}
use Rattle.choosing.specs.Choosing.{chosen_by}
use Rattle.choosing.proofs.choosing.chosen_by.Goals as goal

pub returns-in_err-wanted_at-in-3 : goal.returns-in_err-wanted_at-in-3
unfolding chosen_by
returns-in_err-wanted_at-in-3 c =
    rw (← c.count.ensures, c.in-3.is, ← c.wanted_at.ensures, c.in_err-wanted_at-in-3.was) c.from_residual.ensures

pub returns-in_err-wanted_at-in-5 : goal.returns-in_err-wanted_at-in-5
unfolding chosen_by
returns-in_err-wanted_at-in-5 c =
    rw (← c.count.ensures, c.in-5.is, ← c.wanted_at-in-5.ensures, c.in_err-wanted_at-in-5.was) c.from_residual-in_err-wanted_at-in-5.ensures

pub returns-in_err-wanted_at-in-5-2 : goal.returns-in_err-wanted_at-in-5-2
unfolding chosen_by
returns-in_err-wanted_at-in-5-2 c =
    rw (← c.count.ensures, c.in-5.is, ← c.wanted_at-in-5.ensures, c.in_ok-wanted_at-in-5.was, ← c.wanted_at-in-5-2.ensures, c.in_err-wanted_at-in-5-2.was) c.from_residual-in_err-wanted_at-in-5-2.ensures

pub returns-in_ok-wanted_at-in-3 : goal.returns-in_ok-wanted_at-in-3
unfolding chosen_by
returns-in_ok-wanted_at-in-3 c =
    rw (← c.count.ensures, c.in-3.is, ← c.wanted_at.ensures, c.in_ok-wanted_at-in-3.was, c.by_one.ensures) refl

pub returns-in_ok-wanted_at-in-5-2 : goal.returns-in_ok-wanted_at-in-5-2
unfolding chosen_by
returns-in_ok-wanted_at-in-5-2 c =
    rw (← c.count.ensures, c.in-5.is, ← c.wanted_at-in-5.ensures, c.in_ok-wanted_at-in-5.was, ← c.wanted_at-in-5-2.ensures, c.in_ok-wanted_at-in-5-2.was) c.by_two.ensures

pub returns-in_default : goal.returns-in_default
unfolding chosen_by
returns-in_default c =
    let count = c.args.words.count in
    rw (
      lt-leb count 1 (omega (arith, c.count.ensures)),
      ne_eqb count 3 (λ e. omega (arith, c.count.ensures)),
      ne_eqb count 5 (λ e. omega (arith, c.count.ensures)),
    ) refl

pub returns-in-0 : goal.returns-in-0
unfolding chosen_by
returns-in-0 c = rw (le-leb c.args.words.count 1 (omega (arith, c.count.ensures))) refl
