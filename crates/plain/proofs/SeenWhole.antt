-- What goes by registers and state alone says the same of the whole file. Assumes nothing.
use Prim.Native.Nat.{ℕ}
use mathlib.Core.Path.{◌≡◌, refl}
use Rattle.bits.specs.Store.{bit}
use Rattle.file.specs.declared.registers.File.{File}
use Rattle.file.specs.File.{register, seen, crtc_locked}
use Rattle.file.specs.State.{unasked}
use Rattle.timing.specs.Table.{wide}
use Rattle.timing.specs.Timing.{timing_in}
use Rattle.access.specs.declared.record.Record.{Record}
use Rattle.access.specs.Access.{locked_out, palette_up, in_bank, v_port_state, v_total, v_display, v_sync_start, v_sync_end, line_shown, line_after, in_sync, past_display, display_state}
use Rattle.access.specs.Checks.{space_off}

module _ (f : File) where
  pub palette_seen : palette_up (seen f.registers unasked) ≡ palette_up f
  unfolding palette_up seen register
  palette_seen = refl

  pub bank_seen : in_bank (seen f.registers unasked) ≡ in_bank f
  unfolding in_bank seen register
  bank_seen = refl

  pub lock_seen : crtc_locked (seen f.registers unasked) ≡ crtc_locked f
  unfolding crtc_locked seen register
  lock_seen = refl

  pub locked_seen : (number : ℕ) → locked_out (seen f.registers unasked) number ≡ locked_out f number
  unfolding locked_out crtc_locked seen register
  locked_seen number = refl

  pub space_seen : (r : Record) → space_off (seen f.registers unasked) r ≡ space_off f r
  unfolding space_off seen register
  space_seen r = refl

  pub port_seen : v_port_state (seen f.registers f.state) ≡ v_port_state f
  unfolding v_port_state seen register
  port_seen = refl

  pub shown_seen : line_shown (seen f.registers f.state) ≡ line_shown f
  unfolding line_shown v_total timing_in wide seen register
  shown_seen = refl

  pub after_seen : (lines : ℕ) → line_after (seen f.registers f.state) lines ≡ line_after f lines
  unfolding line_after line_shown v_total timing_in wide seen register
  after_seen lines = refl

  pub display_seen : display_state (seen f.registers f.state) ≡ display_state f
  unfolding display_state in_sync past_display line_shown v_total v_display v_sync_start v_sync_end timing_in wide seen register
  display_seen = refl
