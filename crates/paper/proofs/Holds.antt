-- P1 to P11 hold of the definitions, on each chip: one theorem over one table, which antt computes.
-- Assumes nothing.
use lib.Dec.{T}
use Rattle.bits.specs.Numbers.{end_after, meant, stored_for, in_range, read_from, read_numbers, ranges_from, all_in_range, write_numbers}
use Rattle.bits.specs.Pieces.{width, held, gather, piece_reach, put, scatter}
use Rattle.bits.specs.Store.{bits, bit, store, within}
use Rattle.file.specs.declared.chip.Chip.{Chip}
use Rattle.file.specs.declared.chip.Chip.TheVariants.{Gd5462, Gd5464}
use Rattle.file.specs.Chips.{pci02, v_port_shown, v_port_at_power_on}
use Rattle.file.specs.Answers.{code_of, value_of, refused}
use Rattle.file.specs.Effects.{store_in, apply}
use Rattle.file.specs.File.{register, crtc_locked, with_registers, power_on}
use Rattle.file.specs.Palette.{component, addressed, moved, after_write, after_read, stores, mixed, dac_state, marks_from, marks_sound, pointer_sound}
use Rattle.file.specs.Registers.{stored_bits}
use Rattle.file.specs.Sound.{all_within, sound}
use Rattle.file.specs.State.{last_line, state_sound}
use Rattle.places.specs.Lookup.{is_one_of, selects, matches, first, row_at, place_of_row, place_at, other_way, some_row, held_in, is_wider, inside_in}
use Rattle.places.specs.Places.{places}
use Rattle.access.specs.Access.{place_of, locked_out, locked_reach, reach_in, palette_up, in_bank, entry_number, entry, shown_in, shown_state, v_port_state, v_total, v_display, v_sync_start, v_sync_end, line_shown, line_after, in_sync, past_display, display_state, answer_at, pixel_write, answer, effect_at, effect, access}
use Rattle.access.specs.Checks.{is_write, is_passing, carries, is_port, is_mmio, not_sound, bad_access, bad_passing, malformed, space_off, no_row, not_held, other_direction, inside_wider, of_other_half, other_width, wrong_width, checks, first_refusal}
use Rattle.timing.specs.Table.{wide, table}
use Rattle.timing.specs.Timing.{timing_of, numbers_of, timing_in, read_timing, with_timing, timing_answer, written_file, write_timing}
use Rattle.geometry.specs.Geometry.{mark, cursor_in, bottom, window_in, read_geometry}
use Rattle.paper.specs.Examples.{set_register, started, mode12, examples, same_numbers, same_integer, steps_hold, after_steps, colour_is, writing_holds, look_holds, holds, are_all_held}

-- computed on the one chip and on the other
both_hold : T (are_all_held Gd5462 (examples Gd5462)) × T (are_all_held Gd5464 (examples Gd5464))
unfolding end_after meant stored_for in_range read_from read_numbers ranges_from all_in_range write_numbers width held gather piece_reach put scatter bits bit store within code_of value_of refused store_in apply register crtc_locked with_registers pci02 v_port_shown v_port_at_power_on power_on component addressed moved after_write after_read stores mixed dac_state marks_from marks_sound pointer_sound stored_bits all_within sound last_line state_sound is_one_of selects matches first row_at place_of_row place_at other_way some_row held_in is_wider inside_in places place_of locked_out locked_reach reach_in palette_up in_bank entry_number entry shown_in shown_state v_port_state v_total v_display v_sync_start v_sync_end line_shown line_after in_sync past_display display_state answer_at pixel_write answer effect_at effect access is_write is_passing carries is_port is_mmio not_sound bad_access bad_passing malformed space_off no_row not_held other_direction inside_wider of_other_half other_width wrong_width checks first_refusal wide table timing_of numbers_of timing_in read_timing with_timing timing_answer written_file write_timing mark cursor_in bottom window_in read_geometry set_register started mode12 examples same_numbers same_integer steps_hold after_steps colour_is writing_holds look_holds holds are_all_held
both_hold = (tt, tt)

pub examples-hold : (chip : Chip) → T (are_all_held chip (examples chip))
examples-hold Gd5462 = both_hold.0
examples-hold Gd5464 = both_hold.1
