-- The reader's and the writer's definitions, by what the code's tests found. Assumes nothing.
use Prim.Native.Nat.{ℕ}
use mathlib.Core.Path.{◌≡◌}
use mathlib.Core.Bool.{Bool, true, false}
use mathlib.Core.List.{List, []}
use Rattle.bits.specs.Numbers.{read_numbers, all_in_range, write_numbers}
use Rattle.file.specs.declared.answer.Answer.TheVariants.{Done, Locked, OutOfRange, NotSound}
use Rattle.file.specs.declared.registers.File.{File}
use Rattle.file.specs.Answers.{refused, code_of}
use Rattle.file.specs.File.{with_registers, crtc_locked}
use Rattle.file.specs.Sound.{sound}
use Rattle.timing.specs.declared.Timing.{Timing}
use Rattle.timing.specs.Table.{table, wide}
use Rattle.timing.specs.Timing.{timing_of, numbers_of, timing_in, read_timing, with_timing, timing_answer, written_file, write_timing}

pub read-unsound : (f : File) (timing : Timing) → sound f ≡ false → timing ≡ timing_of []
    → record { answer = NotSound; timing = timing } ≡ read_timing f
unfolding read_timing
read-unsound f timing s e = rw (s, e)

pub read_done : (f : File) (timing : Timing) (w : Bool) (numbers : List ℕ) → sound f ≡ true → w ≡ wide f
    → numbers ≡ read_numbers (table w) f.registers → timing ≡ timing_of numbers → record { answer = Done 0; timing = timing } ≡ read_timing f
unfolding read_timing timing_in
read_done f timing w numbers s v n e = rw (s, e, n, v)

-- a refusal leaves the file, and code 0 writes it
module _ (f : File) (t : Timing) where
  pub write-unsound : sound f ≡ false → record { answer = NotSound; file = f } ≡ write_timing f t
  unfolding write_timing written_file timing_answer refused code_of
  write-unsound s = rw s

  pub write-locked : sound f ≡ true → crtc_locked f ≡ true → record { answer = Locked; file = f } ≡ write_timing f t
  unfolding write_timing written_file timing_answer refused code_of
  write-locked s l = rw (s, l)

  pub write-outside : (w : Bool) (numbers : List ℕ) → sound f ≡ true → crtc_locked f ≡ false → w ≡ wide f → numbers ≡ numbers_of t
      → all_in_range (table w) numbers ≡ false → record { answer = OutOfRange; file = f } ≡ write_timing f t
  unfolding write_timing written_file timing_answer refused code_of
  write-outside w numbers s l v n r = rw (s, l, ← v, ← n, r)

  pub write_done : (w : Bool) (numbers registers : List ℕ) → sound f ≡ true → crtc_locked f ≡ false → w ≡ wide f → numbers ≡ numbers_of t
      → all_in_range (table w) numbers ≡ true → registers ≡ write_numbers (table w) numbers f.registers
      → record { answer = Done 0; file = with_registers registers f } ≡ write_timing f t
  unfolding write_timing written_file timing_answer refused code_of with_timing
  write_done w numbers registers s l v n r e = rw (s, l, ← v, ← n, r, e)
