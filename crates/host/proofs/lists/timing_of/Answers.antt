-- `timing_of` meets its contract. Assumes nothing.
use lib.ListN.{get_or}
use Rattle.timing.specs.Timing.{timing_of, numbers_of}
use Rattle.host.specs.Lists.{clipped_first, timing_clipped}
use Rattle.host.proofs.lists.timing_of.Goals as goal

pub returns : goal.returns
unfolding timing_clipped clipped_first timing_of numbers_of
returns c =
    λ i. record {
      h_total = record { 0 = c.clipped.ensures i };
      h_display = record { 0 = c.clipped-2.ensures i };
      h_blank_start = record { 0 = c.clipped-3.ensures i };
      h_blank_end = record { 0 = c.clipped-4.ensures i };
      h_sync_start = record { 0 = c.clipped-5.ensures i };
      h_sync_end = record { 0 = c.clipped-6.ensures i };
      v_total = record { 0 = c.clipped-7.ensures i };
      v_display = record { 0 = c.clipped-8.ensures i };
      v_blank_start = record { 0 = c.clipped-9.ensures i };
      v_blank_end = record { 0 = c.clipped-10.ensures i };
      v_sync_start = record { 0 = c.clipped-11.ensures i };
      v_sync_end = record { 0 = c.clipped-12.ensures i };
      line_compare = record { 0 = c.clipped-13.ensures i };
      offset = c.clipped-14.ensures i;
      screen_start = get_or c.args.numbers 14 0;
    }
