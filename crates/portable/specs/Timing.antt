-- 02, 13/13: 'the same timing reader and writer', on 28 lent bytes.
-- Assumes nothing.
use Rattle.std.specs.Prelude.{ℕ, ◌≡◌, Bool, cond, List, [], ◌∷◌, eqb, get_or, length}
use Rattle.bits.specs.Numbers.{read_numbers}
use Rattle.bits.specs.Store.{bit}
use Rattle.file.specs.declared.answer.Answer.{Answer}
use Rattle.file.specs.declared.answer.Answer.TheVariants.{Done, NotSound}
use Rattle.timing.specs.declared.Clocks.{Clocks}
use Rattle.timing.specs.declared.Scanlines.{Scanlines}
use Rattle.timing.specs.Layout.{answer_by, registers_after}
use Rattle.portable.specs.declared.Read.{Read}
use Rattle.portable.specs.declared.Timing.{Timing}
use Rattle.portable.specs.Table.{table, layout}

-- 01, 'Timing': 'Horizontal numbers are character clocks and vertical ones scanlines'
abbrev clocks : ℕ → Clocks
clocks n = record { 0 = n }

abbrev scanlines : ℕ → Scanlines
scanlines n = record { 0 = n }

-- the numbers by their places in the table, as a timing
abbrev pub timing_by : (ℕ → ℕ) → Timing
timing_by n =
    record {
      h_total = clocks (n 0);
      h_display = clocks (n 1);
      h_blank_start = clocks (n 2);
      h_blank_end = clocks (n 3);
      h_sync_start = clocks (n 4);
      h_sync_end = clocks (n 5);
      v_total = scanlines (n 6);
      v_display = scanlines (n 7);
      v_blank_start = scanlines (n 8);
      v_blank_end = scanlines (n 9);
      v_sync_start = scanlines (n 10);
      v_sync_end = scanlines (n 11);
      line_compare = scanlines (n 12);
      offset = n 13;
    }

-- the numbers in table order, as a timing
unfoldable pub timing_of : List ℕ → Timing
timing_of numbers = timing_by (λ (k : ℕ). get_or numbers k 0)

-- a timing's numbers, in table order
abbrev pub numbers_of : Timing → List ℕ
numbers_of t =
    t.h_total.0
    ∷ t.h_display.0
    ∷ t.h_blank_start.0
    ∷ t.h_blank_end.0
    ∷ t.h_sync_start.0
    ∷ t.h_sync_end.0
    ∷ t.v_total.0
    ∷ t.v_display.0
    ∷ t.v_blank_start.0
    ∷ t.v_blank_end.0
    ∷ t.v_sync_start.0
    ∷ t.v_sync_end.0
    ∷ t.line_compare.0
    ∷ t.offset
    ∷ []

-- 'It works on exactly 28 lent bytes'; '12 for another length'
unfoldable pub readable : List ℕ → Bool
readable bytes = eqb (length bytes) 28

-- 01's CR11[7], code 8's condition: bit 7 of byte 11h
unfoldable pub locked : List ℕ → Bool
locked bytes = eqb (bit 7 (get_or bytes 0x11 0)) 1

-- 01, 'Timing .. readers .. answer 12 with all numbers 0'. The lock refuses no read, and screen start is not read
unfoldable pub read_timing : List ℕ → Read
read_timing bytes =
    cond (readable bytes)
    (record { answer = Done 0; timing = timing_of (read_numbers table bytes) })
    (record { answer = NotSound; timing = timing_of [] })

-- 'Refusals: 12 for another length, then 8 and 10 with that chip's ranges.'
unfoldable pub timing_answer : List ℕ → Timing → Answer
timing_answer bytes t = answer_by layout (readable bytes) (locked bytes) (numbers_of t)

-- a refusal leaves the lent bytes as found, and code 0 writes the numbers into their pieces
unfoldable pub bytes_after : List ℕ → Timing → List ℕ
bytes_after bytes t = registers_after layout (timing_answer bytes t) (numbers_of t) bytes

-- the writer, given bytes and a timing: what it answers, and what each byte holds afterwards
pub record Written (before : List ℕ) (t : Timing) (answer : Answer) (after : List ℕ) : Type 0 where
  pub answered : answer ≡ timing_answer before t
  pub bytes : after ≡ bytes_after before t
