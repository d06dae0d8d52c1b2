-- 01, 'Timing': the reader and the writer.
-- Assumes nothing.
use Rattle.std.specs.Prelude.{ℕ, cond, List, [], ◌∷◌, get_or}
use Rattle.bits.specs.Numbers.{read_numbers, all_in_range, write_numbers}
use Rattle.file.specs.declared.answer.Answer.{Answer}
use Rattle.file.specs.declared.answer.Answer.TheVariants.{Done, Locked, OutOfRange, NotSound}
use Rattle.file.specs.declared.registers.File.{File}
use Rattle.file.specs.Answers.{refused}
use Rattle.file.specs.File.{with_registers, crtc_locked}
use Rattle.file.specs.Sound.{sound}
use Rattle.timing.specs.declared.Clocks.{Clocks}
use Rattle.timing.specs.declared.Scanlines.{Scanlines}
use Rattle.timing.specs.declared.Timing.{Timing}
use Rattle.timing.specs.declared.Read.{Read}
use Rattle.timing.specs.declared.Written.{Written}
use Rattle.timing.specs.Table.{table, wide}

-- 'Horizontal numbers are character clocks and vertical ones scanlines'
abbrev clocks : ℕ → Clocks
clocks n = record { 0 = n }

abbrev scanlines : ℕ → Scanlines
scanlines n = record { 0 = n }

-- the numbers in table order, as a timing
unfoldable pub timing_of : List ℕ → Timing
timing_of n =
    record {
      h_total = clocks (get_or n 0 0);
      h_display = clocks (get_or n 1 0);
      h_blank_start = clocks (get_or n 2 0);
      h_blank_end = clocks (get_or n 3 0);
      h_sync_start = clocks (get_or n 4 0);
      h_sync_end = clocks (get_or n 5 0);
      v_total = scanlines (get_or n 6 0);
      v_display = scanlines (get_or n 7 0);
      v_blank_start = scanlines (get_or n 8 0);
      v_blank_end = scanlines (get_or n 9 0);
      v_sync_start = scanlines (get_or n 10 0);
      v_sync_end = scanlines (get_or n 11 0);
      line_compare = scanlines (get_or n 12 0);
      offset = get_or n 13 0;
      screen_start = get_or n 14 0;
    }

-- a timing's numbers, in table order
unfoldable pub numbers_of : Timing → List ℕ
numbers_of t =
    t.h_total.0
    ∷ t.h_display.0
    ∷ t.h_blank_start.0
    ∷ t.h_blank_end.0
    ∷ t.h_sync_start.0
    ∷ t.h_sync_end.0
    ∷ t.v_total.0
    ∷ t.v_display.0
    ∷ t.v_blank_start.0
    ∷ t.v_blank_end.0
    ∷ t.v_sync_start.0
    ∷ t.v_sync_end.0
    ∷ t.line_compare.0
    ∷ t.offset
    ∷ t.screen_start
    ∷ []

-- the fifteen numbers of a file
unfoldable pub timing_in : File → Timing
timing_in f = timing_of (read_numbers (table (wide f)) f.registers)

-- 'Timing .. readers of a file answer 12 with all numbers 0'
unfoldable pub read_timing : File → Read
read_timing f =
    cond (sound f) (record { answer = Done 0; timing = timing_in f }) (record { answer = NotSound; timing = timing_of [] })

-- the file with the numbers written into their pieces
unfoldable pub with_timing : Timing → File → File
with_timing t f = with_registers (write_numbers (table (wide f)) (numbers_of t) f.registers) f

-- 'Timing writer: 12, 8, 10.'
unfoldable pub timing_answer : File → Timing → Answer
timing_answer f t =
    cond (sound f)
    (cond (crtc_locked f) Locked (cond (all_in_range (table (wide f)) (numbers_of t)) (Done 0) OutOfRange))
    NotSound

-- 'Codes from 2 up leave the file as given'
unfoldable pub written_file : Answer → Timing → File → File
written_file a t f = cond (refused a) f (with_timing t f)

unfoldable pub write_timing : File → Timing → Written
write_timing f t = record { answer = timing_answer f t; file = written_file (timing_answer f t) t f }
