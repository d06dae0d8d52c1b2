-- 02, 4/13: a line written from a file, a name and a clock.
-- Assumes nothing.
use Rattle.std.specs.Prelude.{ℕ, ◌*◌, ◌/◌, ◌%◌, Bool, cond, ◌&&◌, List, [], ◌∷◌, ◌++◌, map, ◌≡◌, eqb, leb, length, drop, Result, Ok, Err}
use Rattle.bits.specs.Store.{bit}
use Rattle.io.specs.Digits.{last_digits}
use Rattle.file.specs.declared.registers.File.{File}
use Rattle.file.specs.File.{register}
use Rattle.file.specs.Names.{MISC}
use Rattle.file.specs.Sound.{sound}
use Rattle.text.specs.Text.{decimal}
use Rattle.timing.specs.declared.Timing.{Timing}
use Rattle.timing.specs.Timing.{timing_in}
use Rattle.modes.specs.declared.mode.Axis.TheVariants.{Horizontal, Vertical}
use Rattle.modes.specs.Form.{Flag, Parts, every, name_byte, spelled}
use Rattle.mode_file.specs.declared.verdict.Verdict.{Verdict}
use Rattle.mode_file.specs.declared.verdict.Verdict.TheVariants.{NotSound, OtherTiming, OutOfForm}
use Rattle.mode_file.specs.Verdicts.{code_said}

-- '22 name or clock out of form': as the form of a line has them
unfoldable pub name_fits : List ℕ → Bool
name_fits name = leb 1 (length name) && leb (length name) 32 && every name_byte name

unfoldable pub clock_fits : ℕ → Bool
clock_fits khz = leb 1 khz && leb khz 999999

-- 'Blanking starts at display and ends at total; line compare is 1023, offset is display pixels divided by 8, screen start 0': is each so
unfoldable pub form_tests : Timing → List Bool
form_tests t =
    eqb t.h_blank_start.0 t.h_display.0
    ∷ eqb t.h_blank_end.0 t.h_total.0
    ∷ eqb t.v_blank_start.0 t.v_display.0
    ∷ eqb t.v_blank_end.0 t.v_total.0
    ∷ eqb t.line_compare.0 1023
    ∷ eqb t.offset t.h_display.0
    ∷ eqb t.screen_start 0
    ∷ []

-- '21 the file's timing isn't of this form'
unfoldable pub of_form : Timing → Bool
unfolding form_tests every
of_form t = every (λ (same : Bool). same) (form_tests t)

-- a line's eight numbers: eight pixels are a character clock
unfoldable pub numbers_out : Timing → List ℕ
numbers_out t =
    8 * t.h_display.0
    ∷ 8 * t.h_sync_start.0
    ∷ 8 * t.h_sync_end.0
    ∷ 8 * t.h_total.0
    ∷ t.v_display.0
    ∷ t.v_sync_start.0
    ∷ t.v_sync_end.0
    ∷ t.v_total.0
    ∷ []

-- 'with three decimals'
unfoldable pub clock_out : ℕ → List ℕ
clock_out khz = decimal (khz / 1000) ++ 0x2E ∷ last_digits 10 3 (khz % 1000)

-- 'and both flags, horizontal first'
unfoldable pub flags_out : Bool → Bool → List Flag
flags_out h v = record { axis = Horizontal; minus = h } ∷ record { axis = Vertical; minus = v } ∷ []

-- MISC[6] is horizontal, [7] vertical, 1 is minus
unfoldable pub minus_in : File → ℕ → Bool
minus_in f place = eqb (bit place (register f MISC)) 1

-- the parts of a line with this name, clock, numbers and flags
unfoldable pub parts_with : List ℕ → ℕ → List ℕ → Bool → Bool → Parts
parts_with name khz numbers h v =
    record {
      name = name;
      whole = decimal (khz / 1000);
      decimals = last_digits 10 3 (khz % 1000);
      numbers = map decimal numbers;
      flags = flags_out h v;
    }

-- those of a file's line, and so the line
unfoldable pub parts_out : File → List ℕ → ℕ → Parts
unfolding parts_with
parts_out f name khz = parts_with name khz (numbers_out (timing_in f)) (minus_in f 6) (minus_in f 7)

unfoldable pub line_out : File → List ℕ → ℕ → List ℕ
line_out f name khz = spelled (parts_out f name khz)

-- 'writing 12, 22, 21'; '22 .. or a buffer under 256 bytes'; else how many bytes the line has
unfoldable pub write_verdict : File → List ℕ → ℕ → ℕ → Result ℕ Verdict
write_verdict f name khz room =
    cond (sound f)
    (cond (name_fits name && clock_fits khz && leb 256 room) (cond (of_form (timing_in f)) (Ok (length (line_out f name khz))) (Err OtherTiming)) (Err OutOfForm))
    (Err NotSound)

unfoldable pub done : {A : Type 0} → Result A Verdict → Bool
done r = eqb (code_said r) 0

-- the line's length or the refusal, and each byte of the buffer: a refusal leaves it, and the bytes behind the line stay
pub record WroteFrom (f : File) (name : List ℕ) (khz : ℕ) (before after : List ℕ) (r : Result ℕ Verdict) : Type 0 where
  pub answered : r ≡ write_verdict f name khz (length before)
  pub bytes : after ≡ cond (done r) (line_out f name khz ++ drop (length (line_out f name khz)) before) before
