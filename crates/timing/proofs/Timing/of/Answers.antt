-- `timing::Timing::of` meets its contract: all but the last number have 16 bits. Assumes nothing.
use mathlib.Core.Path.{refl}
use lib.Dec.{lit<}
use Rattle.timing.specs.Timing.{timing_of}
use Rattle.timing.proofs.Timing.of.Goals as goal

pub overflow_cast-result : goal.overflow_cast-result
overflow_cast-result c = record { fits = c.requires 0 (lit< tt) }

pub overflow_cast-result-2 : goal.overflow_cast-result-2
overflow_cast-result-2 c = record { fits = c.requires 1 (lit< tt) }

pub overflow_cast-result-3 : goal.overflow_cast-result-3
overflow_cast-result-3 c = record { fits = c.requires 2 (lit< tt) }

pub overflow_cast-result-4 : goal.overflow_cast-result-4
overflow_cast-result-4 c = record { fits = c.requires 3 (lit< tt) }

pub overflow_cast-result-5 : goal.overflow_cast-result-5
overflow_cast-result-5 c = record { fits = c.requires 4 (lit< tt) }

pub overflow_cast-result-6 : goal.overflow_cast-result-6
overflow_cast-result-6 c = record { fits = c.requires 5 (lit< tt) }

pub overflow_cast-result-7 : goal.overflow_cast-result-7
overflow_cast-result-7 c = record { fits = c.requires 6 (lit< tt) }

pub overflow_cast-result-8 : goal.overflow_cast-result-8
overflow_cast-result-8 c = record { fits = c.requires 7 (lit< tt) }

pub overflow_cast-result-9 : goal.overflow_cast-result-9
overflow_cast-result-9 c = record { fits = c.requires 8 (lit< tt) }

pub overflow_cast-result-10 : goal.overflow_cast-result-10
overflow_cast-result-10 c = record { fits = c.requires 9 (lit< tt) }

pub overflow_cast-result-11 : goal.overflow_cast-result-11
overflow_cast-result-11 c = record { fits = c.requires 10 (lit< tt) }

pub overflow_cast-result-12 : goal.overflow_cast-result-12
overflow_cast-result-12 c = record { fits = c.requires 11 (lit< tt) }

pub overflow_cast-result-13 : goal.overflow_cast-result-13
overflow_cast-result-13 c = record { fits = c.requires 12 (lit< tt) }

pub overflow_cast-result-14 : goal.overflow_cast-result-14
overflow_cast-result-14 c = record { fits = c.requires 13 (lit< tt) }

pub returns : goal.returns
unfolding timing_of
returns c = refl
