-- `parts::put_sets` meets its contract: whole sets stand before what is left of the input, which, counted and stored, gives the whole.
-- Assumes nothing.
use mathlib.Core.Path.{◌≡◌}
use Rattle.std.specs.Slice.Iter.{chunks_exact_rest, chunks_exact_size}
use Rattle.clock_text.proofs.SetsPut.{Putting, WholeSets}
use Rattle.clock_text.proofs.parts.put_sets.Given as goal

abbrev pub invariant-loop-set : goal.invariant-loop-set
invariant-loop-set l = record {
  size : chunks_exact_size l.set-iterator ≡ 3;
  whole : WholeSets l.input (chunks_exact_rest l.set-iterator);
  held : Putting l.fn.before l.input l.initial.lines l.lines l.part.tally l.part.end (chunks_exact_rest l.set-iterator);
}
