-- A mode into a file, by what the code's tests found. Assumes nothing.
use Prim.Native.Nat.{ℕ}
use mathlib.Core.Bool.{true, cond}
use mathlib.Core.Path.{◌≡◌, refl, sym, ap, ◌∙◌}
use lib.Dec.{leb}
use Rattle.std.specs.Prelude.{Ok, Err}
use Rattle.file.specs.declared.answer.Answer.{Answer}
use Rattle.file.specs.declared.answer.Answer.TheVariants.{Done as Answered, NoRegister, Malformed, SpaceOff, NotHeld, OtherHalf, WrongWidth, ReadOnly, Locked as LockedOut, PaletteDown, OutOfRange as Outside, ShortBuffer, NotSound as Unsound, NotBeforeRed, OtherChip, OtherDirection, InsideWider}
use Rattle.file.specs.Answers.{code_of, refused}
use Rattle.file.specs.declared.registers.File.{File}
use Rattle.timing.specs.Timing.{timing_answer, with_timing, written_file, write_timing}
use Rattle.timing.specs.declared.Timing.{Timing}
use Rattle.timing.specs.declared.Written.{Written}
use Rattle.modes.specs.declared.mode.Mode.{Mode}
use Rattle.mode_file.specs.declared.verdict.Verdict.{Verdict}
use Rattle.mode_file.specs.declared.verdict.Verdict.TheVariants.{NotSound}
use Rattle.mode_file.specs.Into.{flagged_line, done_line, by_code, mode_line, read_mode}
use Rattle.mode_file.specs.Said.{eights, timing_said, clamped_said}
use Rattle.mode_file.proofs.Clamped.{write-clamped}

-- the timing that was written, and its answer
module _ (m : Mode) (f : File) (t : Timing) (w : Written) (even : eights m.numbers ≡ true) (said : t ≡ clamped_said m.numbers) (wrote : w ≡ write_timing f t)
  where
    written-said : w ≡ write_timing f (timing_said m.numbers)
    written-said = wrote ∙ ap (write_timing f) said ∙ write-clamped f m.numbers

    answer-said : (a : Answer) → w.answer ≡ a → code_of (timing_answer f (timing_said m.numbers)) ≡ code_of a
    unfolding write_timing
    answer-said a e = ap (λ (x : Written). code_of x.answer) (sym written-said) ∙ ap code_of e

    pub mode-refused : (a : Answer) → w.answer ≡ a → (v : Verdict) → by_code (code_of a) m f ≡ Err v → Err v ≡ read_mode m f
    unfolding read_mode mode_line
    mode-refused a e v b = sym (rw (even, answer-said a e) b)

    zero : (value : ℕ) → code_of (Answered value) ≡ 0
    unfolding code_of
    zero value = refl

    -- the file that was written is the file with the timing
    file-said : (value : ℕ) → w.answer ≡ Answered value → w.file ≡ with_timing (timing_said m.numbers) f
    unfolding write_timing written_file refused
    file-said value e =
        ap (λ (x : Written). x.file) written-said
        ∙ ap (λ (k : ℕ). cond (leb 2 k) f (with_timing (timing_said m.numbers) f)) (answer-said (Answered value) e ∙ zero value)

    pub mode-done : (value : ℕ) → w.answer ≡ Answered value → Ok (flagged_line m w.file) ≡ read_mode m f
    unfolding read_mode mode_line by_code done_line
    mode-done value e = ap (λ (x : File). Ok (flagged_line m x)) (file-said value e) ∙ sym (rw (even, answer-said (Answered value) e ∙ zero value))

-- the writer's other answers
pub other_code : (a : Answer) (m : Mode) (f : File) → ((value : ℕ) → a ≡ Answered value → ⊥) → (a ≡ LockedOut → ⊥) → (a ≡ Outside → ⊥)
    → by_code (code_of a) m f ≡ Err NotSound
unfolding by_code code_of
other_code (Answered value) m f d l o = absurd (d value refl)
other_code NoRegister m f d l o = refl
other_code Malformed m f d l o = refl
other_code SpaceOff m f d l o = refl
other_code NotHeld m f d l o = refl
other_code OtherHalf m f d l o = refl
other_code WrongWidth m f d l o = refl
other_code ReadOnly m f d l o = refl
other_code LockedOut m f d l o = absurd (l refl)
other_code PaletteDown m f d l o = refl
other_code Outside m f d l o = absurd (o refl)
other_code ShortBuffer m f d l o = refl
other_code Unsound m f d l o = refl
other_code NotBeforeRed m f d l o = refl
other_code OtherChip m f d l o = refl
other_code OtherDirection m f d l o = refl
other_code InsideWider m f d l o = refl
