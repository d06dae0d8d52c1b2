-- `put_entries` meets its contract: with the rest of the entries appended, the buffer holds them all. Assumes nothing.
use lib.ListN.{length}
use Rattle.plan.proofs.EntriesAppended.{Turns}
use Rattle.plan.proofs.stages.put_entries.Given as goal

abbrev pub invariant-loop-colour : goal.invariant-loop-colour
invariant-loop-colour l = Turns l.initial.buffer l.initial.at l.colours (length l.colours) l.buffer l.at l.colour-index
