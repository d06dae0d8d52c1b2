-- What it tells of a tally that it is a Rattle `Tally`: how large its numbers are. `Is` is what a proof has of a parameter. Assumes nothing.
use Rattle.std.specs.Prelude.{Option, Some, None}
use mathlib.Core.List.{List}
use mir.Val.{Val}
use denote.Laws.{Is}
use denote.Shadow.{shadow}
use denote.Struct.Declared.{row}
use Rattle.std.specs.contracts.option.Option.{the_field}
use Rattle.clock.specs.declared.terms.Terms.{Terms}
use Rattle.clock.specs.contracts.terms.Terms.{the_row}
use Rattle.clock_text.specs.declared.tally.Tally.{Tally}
use Rattle.clock_text.specs.contracts.tally.Tally.{the_type}
use Rattle.clock_text.proofs.Lengths.{Sized, SizedRate}

rate-sized : (o : Option Terms) (vs : List Val) → shadow ((the_field the_row).row.own_val ((the_field the_row).into o) vs) → SizedRate o
unfolding SizedRate
rate-sized None vs h = tt
rate-sized (Some t) vs h = (h.1.1.1.1.0.1.1.0.1, h.1.1.1.1.0.1.1.1.0.1)

pub sized : (t : Tally) (vs : List Val) → Is (row the_type) t vs → Sized t
sized t vs g =
    record {
      rates = g.1.1.0.1;
      nones = g.1.1.1.0.1;
      refused = g.1.1.1.1.0.1;
      largest = rate-sized t.largest _ g.1.1.1.1.1.0;
      smallest = rate-sized t.smallest _ g.1.1.1.1.1.1.0;
    }
