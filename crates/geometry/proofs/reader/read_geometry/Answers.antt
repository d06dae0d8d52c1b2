-- `reader::read_geometry` meets its contract. Assumes nothing.
use mathlib.Core.Bool.{true}
use mathlib.Core.Path.{◌≡◌, refl, ap, sym, ◌∙◌}
use Rattle.bits.proofs.Test.{passes}
use Rattle.file.specs.Sound.{sound}
use Rattle.timing.specs.declared.Read.{Read}
use Rattle.timing.specs.Timing.{read_timing, timing_in}
use Rattle.geometry.specs.Geometry.{read_geometry}
use Rattle.geometry.proofs.reader.read_geometry.Goals as goal

-- past the test the file is sound
is-sound : (c : goal.After-timing-1) → sound c.args.file ≡ true
is-sound c = sym c.is_sound.ensures ∙ c.if-is_sound.true

pub cursor_in-requires : goal.cursor_in-requires
cursor_in-requires c = passes _ (is-sound c)

-- past the test the file is sound
is-sound-2 : (c : goal.After-cursor_in) → sound c.args.file ≡ true
is-sound-2 c = sym c.is_sound.ensures ∙ c.if-is_sound.true

-- the numbers read are the file's
timing-read : (c : goal.After-cursor_in) → c.read_timing.result.timing ≡ timing_in c.args.file
unfolding read_timing
timing-read c = ap (λ (r : Read). r.timing) c.read_timing.ensures ∙ rw (is-sound-2 c) refl

pub window_in-requires : goal.window_in-requires
window_in-requires c = rw (timing-read c) (refl, refl)

-- past the test the file is sound
is-sound-3 : (c : goal.After-capture_in) → sound c.args.file ≡ true
is-sound-3 c = sym c.is_sound.ensures ∙ c.if-is_sound.true

pub returns-then-is_sound : goal.returns-then-is_sound
unfolding read_geometry
returns-then-is_sound c =
    rw (is-sound-3 c, c.cursor_in.ensures, c.window_in.ensures, c.capture_in.ensures)

pub returns-else-is_sound : goal.returns-else-is_sound
unfolding read_geometry
returns-else-is_sound c =
    rw (sym c.is_sound.ensures ∙ c.if-is_sound.false, c.no_cursor.ensures, c.no_window.ensures, c.no_capture.ensures)
