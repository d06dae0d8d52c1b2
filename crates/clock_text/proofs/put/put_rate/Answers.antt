-- `put::put_rate` meets its contract. Assumes nothing.
use Rattle.file.specs.Readers.{ascii}
use Rattle.clock_text.specs.Report.{rate_text}
use Rattle.clock_text.proofs.put.put_rate.Goals as goal

pub put_terms-requires : goal.put_terms-requires
unfolding rate_text
put_terms-requires c = rw c.in-Some.is at c.requires

pub returns-in-Some : goal.returns-in-Some
unfolding rate_text
returns-in-Some c = rw c.in-Some.is c.put_terms.ensures

pub put-requires : goal.put-requires
unfolding rate_text ascii
put-requires c = rw c.in-None.is at c.requires

pub returns-in-None : goal.returns-in-None
unfolding rate_text ascii
returns-in-None c = rw c.in-None.is c.put.ensures
