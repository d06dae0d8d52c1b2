-- 01, 'Cursor and window 2', and 02, 6/13, the capture geometry.
-- Assumes nothing.
use Rattle.std.specs.Prelude.{ℕ, ◌-◌, ◌*◌, min, Bool, true, false, cond, ◌&&◌, ◌||◌, eqb, leb, ltb, ℤ, pos, neg_ℤ}
use Rattle.std.proofs.Math.IntN.{sub_ℕ}
use Rattle.std.specs.Int.Signed.{le_z}
use Rattle.bits.specs.Store.{bit, bits}
use Rattle.file.specs.declared.answer.Answer.TheVariants.{Done, NotSound}
use Rattle.file.specs.declared.chip.Chip.{Chip}
use Rattle.file.specs.declared.chip.Chip.TheVariants.{Gd5462, Gd5464}
use Rattle.file.specs.declared.registers.File.{File}
use Rattle.file.specs.File.{register}
use Rattle.file.specs.Names.{CC, CE, D0, D2, D4, D5, E0, E2, E4, E6, E8, capture_xstart, capture_xstop, capture_ystart, capture_ystop}
use Rattle.file.specs.Sound.{sound}
use Rattle.timing.specs.declared.Scanlines.{Scanlines}
use Rattle.timing.specs.Timing.{timing_in}
use Rattle.geometry.specs.declared.IncomingScanlines.{IncomingScanlines}
use Rattle.geometry.specs.declared.PixelClocks.{PixelClocks}
use Rattle.geometry.specs.declared.Pixels.{Pixels}
use Rattle.geometry.specs.declared.SignedPixels.{SignedPixels}
use Rattle.geometry.specs.declared.SignedScanlines.{SignedScanlines}
use Rattle.geometry.specs.declared.Capture.{Capture}
use Rattle.geometry.specs.declared.Cursor.{Cursor}
use Rattle.geometry.specs.declared.Window.{Window}
use Rattle.geometry.specs.declared.Geometry.{Geometry}

abbrev pixels : ℕ → Pixels
pixels n = record { 0 = n }

abbrev scanlines : ℕ → Scanlines
scanlines n = record { 0 = n }

abbrev signed_pixels : ℤ → SignedPixels
signed_pixels n = record { 0 = n }

abbrev signed_scanlines : ℤ → SignedScanlines
signed_scanlines n = record { 0 = n }

-- 02, 6/13, as settled: the capture window counts pixel clocks across and incoming scanlines down, neither of them 01's
abbrev pixel_clocks : ℕ → PixelClocks
pixel_clocks n = record { 0 = n }

abbrev incoming_scanlines : ℕ → IncomingScanlines
incoming_scanlines n = record { 0 = n }

-- one bit as a mark
unfoldable pub mark : ℕ → ℕ → Bool
mark place n = eqb (bit place n) 1

-- 'Cursor left = E0 minus E4[14:8], top = E2 minus E4[6:0], signed'; 'Shown width = 64 minus preset, 0 from preset 64 up; height likewise.'
-- 'Image address = E8[14:2] times 1024. Enabled: E6[0].'
unfoldable pub cursor_in : File → Cursor
cursor_in f =
    record {
      enabled = mark 0 (register f E6);
      left = signed_pixels (sub_ℕ (register f E0) (bits 14 8 (register f E4)));
      top = signed_scanlines (sub_ℕ (register f E2) (bits 6 0 (register f E4)));
      width = pixels (64 - bits 14 8 (register f E4));
      height = scanlines (64 - bits 6 0 (register f E4));
      address = bits 14 2 (register f E8) * 1024;
    }

-- left and top: 'signed, -127 to 4095'
unfoldable pub edge_in_range : ℤ → Bool
edge_in_range n = le_z (neg_ℤ (pos 127)) n && le_z n (pos 4095)

unfoldable pub cursor_in_range : Cursor → Bool
cursor_in_range c = edge_in_range c.left.0 && edge_in_range c.top.0

-- 'bottom the smaller of D2 and V display'
unfoldable pub bottom : File → ℕ
bottom f = min (register f D2) (timing_in f).v_display.0

-- 'left CC, top CE, right D0, ..; right and bottom not included; empty if right ≤ left or bottom ≤ top, the four edges given all the same.
-- Fault mark if D2 exceeds V total. Enabled D4[7], video format D4[6]; BLT scanlines 64 times D4[5:0] and D5[5:0].'
unfoldable pub window_in : File → Window
window_in f =
    record {
      enabled = mark 7 (register f D4);
      video = mark 6 (register f D4);
      left = pixels (register f CC);
      top = scanlines (register f CE);
      right = pixels (register f D0);
      bottom = scanlines (bottom f);
      empty = leb (register f D0) (register f CC) || leb (bottom f) (register f CE);
      fault = ltb (timing_in f).v_total.0 (register f D2);
      start = scanlines (64 * bits 5 0 (register f D4));
      stop = scanlines (64 * bits 5 0 (register f D5));
    }

-- 02, 6/13: 'the 5462's vertical start is given as 0': there 10Ch is V-Port Control
unfoldable pub vertical_start : Chip → ℕ → ℕ
vertical_start Gd5462 stored = 0
vertical_start Gd5464 stored = stored

-- 02, 6/13: 'Capture geometry is start and stop as stored'
unfoldable pub capture_in : File → Capture
capture_in f =
    record {
      xstart = pixel_clocks (register f capture_xstart);
      xstop = pixel_clocks (register f capture_xstop);
      ystart = incoming_scanlines (vertical_start f.state.chip (register f capture_ystart));
      ystop = incoming_scanlines (register f capture_ystop);
    }

unfoldable pub are_both_below : ℕ → ℕ → ℕ → Bool
are_both_below bound start stop = ltb start bound && ltb stop bound

-- what the stored bits allow, 02, 6/13: '108h and 10Ah 03FFh'; 10Ch, where it is the start, and 10Eh '01FFh'
unfoldable pub capture_in_range : Capture → Bool
capture_in_range c = are_both_below 1024 c.xstart.0 c.xstop.0 && are_both_below 512 c.ystart.0 c.ystop.0

-- 'Timing, geometry and all other readers of a file answer 12 with all numbers 0, marks off, window empty.'
unfoldable pub no_cursor : Cursor
no_cursor =
    record {
      enabled = false;
      left = signed_pixels (pos 0);
      top = signed_scanlines (pos 0);
      width = pixels 0;
      height = scanlines 0;
      address = 0;
    }

unfoldable pub no_window : Window
no_window =
    record {
      enabled = false;
      video = false;
      left = pixels 0;
      top = scanlines 0;
      right = pixels 0;
      bottom = scanlines 0;
      empty = true;
      fault = false;
      start = scanlines 0;
      stop = scanlines 0;
    }

unfoldable pub no_capture : Capture
no_capture = record { xstart = pixel_clocks 0; xstop = pixel_clocks 0; ystart = incoming_scanlines 0; ystop = incoming_scanlines 0 }

unfoldable pub read_geometry : File → Geometry
read_geometry f =
    cond (sound f) (record { answer = Done 0; cursor = cursor_in f; window = window_in f; capture = capture_in f })
    (record { answer = NotSound; cursor = no_cursor; window = no_window; capture = no_capture })
