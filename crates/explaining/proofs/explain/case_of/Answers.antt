-- `explain::case_of` meets its contract. Assumes nothing.
use Rattle.explaining.specs.Explained.{case_of}
use Rattle.explaining.proofs.explain.case_of.Goals as goal

pub returns : goal.returns
unfolding case_of
returns c = rw (c.numbers_in-new.ensures, c.numbers_in-old.ensures, c.find-found.ensures, c.reach_in-reach.ensures, c.is_whole-whole.ensures, c.record_in-asked.ensures, c.access-accessed.ensures)
