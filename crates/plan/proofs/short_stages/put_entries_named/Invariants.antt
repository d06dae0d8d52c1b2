-- `put_entries_named` meets its contract: with the rest of the named entries appended, the buffer holds them all. Assumes nothing.
use lib.ListN.{length}
use Rattle.plan.proofs.NamedEntries.{NamedTurns}
use Rattle.plan.proofs.short_stages.put_entries_named.Given as goal

abbrev pub invariant-loop-i : goal.invariant-loop-i
invariant-loop-i l = NamedTurns l.initial.buffer l.initial.at l.named l.colours (length l.colours) l.buffer l.at l.apart l.i
