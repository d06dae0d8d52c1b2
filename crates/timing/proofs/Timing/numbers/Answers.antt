-- `timing::Timing::numbers` meets its contract. Assumes nothing.
use Rattle.timing.specs.Timing.{numbers_of}
use Rattle.timing.proofs.Timing.numbers.Goals as goal

pub returns : goal.returns
unfolding numbers_of
returns c = rw (c.from.ensures, c.from-2.ensures, c.from-3.ensures, c.from-4.ensures, c.from-5.ensures, c.from-6.ensures, c.from-7.ensures, c.from-8.ensures, c.from-9.ensures, c.from-10.ensures, c.from-11.ensures, c.from-12.ensures, c.from-13.ensures, c.from-14.ensures)
