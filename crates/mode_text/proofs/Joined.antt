-- The parts that the code stores, one behind the other, are the line. Assumes nothing.
use Prim.Native.Nat.{ℕ, ◌+◌, ◌/◌, ◌%◌, ◌≤◌}
use mathlib.Core.Bool.{Bool, true, false, cond, true≢false, ◌&&◌}
use mathlib.Core.List.{List, [], ◌∷◌, ◌++◌, append_assoc, append-nil, map}
use mathlib.Core.Path.{◌≡◌, refl, sym, ap, ◌∙◌, subst}
use native.Mathlib.Omega.{arith}
use lib.Dec.{leb}
use lib.ListN.{length, drop, length-append}
use lib.Seq.{sets-eq}
use Rattle.io.specs.Digits.{last_digits}
use Rattle.file.specs.Sound.{sound}
use Rattle.file.specs.declared.answer.Answer.TheVariants.{Done as Answered, NotSound as Unsound}
use Rattle.file.specs.declared.registers.File.{File}
use Rattle.text.specs.Lent.{Wrote}
use Rattle.text.specs.Text.{decimal, space, signed, spaced}
use Rattle.timing.specs.Timing.{timing_in, timing_of, read_timing}
use Rattle.timing.specs.declared.Read.{Read}
use Rattle.timing.specs.declared.Timing.{Timing}
use Rattle.modes.specs.Form.{clock_text, flag_text, flags_text, header, letter, numbers_text, sign, spelled}
use Rattle.mode_file.specs.Verdicts.{number_of, code_said}
use Rattle.std.specs.Prelude.{Ok, Err}
use Rattle.mode_file.specs.declared.verdict.Verdict.{Verdict}
use Rattle.mode_file.specs.declared.verdict.Verdict.TheVariants.{NotSound, OtherTiming, OutOfForm}
use Rattle.mode_text.specs.Out.{name_fits, clock_fits, of_form, numbers_out, clock_out, flags_out, minus_in, parts_with, parts_out, line_out, write_verdict, done, WroteFrom}

-- a line's numbers are numbers that are spaced, with no minus
pub spaced-decimals : (ns : List ℕ) → spaced [] ns ≡ numbers_text (map decimal ns)
unfolding spaced space signed numbers_text
spaced-decimals [] = refl
spaced-decimals (n ∷ ns) = ap (λ (l : List ℕ). (0x20 ∷ decimal n) ++ l) (spaced-decimals ns)

-- the clock is a spaced number and three decimals
pub clock-stored : (khz : ℕ) → numbers_text (decimal (khz / 1000) ∷ []) ++ 0x2E ∷ last_digits 10 3 (khz % 1000) ≡ 0x20 ∷ clock_out khz
unfolding numbers_text clock_out
clock-stored khz = ap (λ (l : List ℕ). 0x20 ∷ l ++ 0x2E ∷ last_digits 10 3 (khz % 1000)) (append-nil (decimal (khz / 1000)))

pub clock-long : (khz : ℕ) → length (numbers_text (decimal (khz / 1000) ∷ [])) + length (0x2E ∷ last_digits 10 3 (khz % 1000)) ≡ length (0x20 ∷ clock_out khz)
clock-long khz = sym (length-append (numbers_text (decimal (khz / 1000) ∷ [])) (0x2E ∷ last_digits 10 3 (khz % 1000))) ∙ ap length (clock-stored khz)

-- a text that was stored, by another name
pub wrote_as : {before : List ℕ} {at : ℕ} {a b after : List ℕ} {end : ℕ} → a ≡ b → Wrote before at a after end → Wrote before at b after end
wrote_as {before} {at} {a} {b} {after} {end} e w = subst (λ (l : List ℕ). Wrote before at l after end) e w

joined : (h n b c d : List ℕ) → ((((h ++ n) ++ 0x22 ∷ []) ++ 0x20 ∷ b) ++ c) ++ d ≡ h ++ ((n ++ 0x22 ∷ 0x20 ∷ b) ++ (c ++ d))
joined h n b c d = simp append_assoc

pub name-long : (name : List ℕ) → length ((header ++ name) ++ 0x22 ∷ []) ≡ length name + 11
unfolding header
name-long name = rw (length-append (header ++ name) (0x22 ∷ []), length-append header name) (omega arith)

module _ (name : List ℕ) (khz : ℕ) (ns : List ℕ) (h v : Bool) where
  -- the parts in the order in which they are stored
  abbrev pub stored : List ℕ
  stored = ((((header ++ name) ++ 0x22 ∷ []) ++ 0x20 ∷ clock_out khz) ++ numbers_text (map decimal ns)) ++ flags_text (flags_out h v)

  pub stored-line : stored ≡ spelled (parts_with name khz ns h v)
  unfolding parts_with spelled clock_text clock_out
  stored-line = joined header name (clock_out khz) (numbers_text (map decimal ns)) (flags_text (flags_out h v))

  pub flags_long : length (flags_text (flags_out h v)) ≡ 14
  unfolding flags_text flags_out flag_text sign letter
  flags_long = refl

  -- how long they are
  pub stored-long : length (spelled (parts_with name khz ns h v))
      ≡ length name + length (0x20 ∷ clock_out khz) + length (numbers_text (map decimal ns)) + 25
  stored-long =
      ap length (sym stored-line)
      ∙ rw (
        length-append ((((header ++ name) ++ 0x22 ∷ []) ++ 0x20 ∷ clock_out khz) ++ numbers_text (map decimal ns)) (flags_text (flags_out h v)),
        length-append (((header ++ name) ++ 0x22 ∷ []) ++ 0x20 ∷ clock_out khz) (numbers_text (map decimal ns)),
        length-append ((header ++ name) ++ 0x22 ∷ []) (0x20 ∷ clock_out khz),
        name-long name,
        flags_long,
      )
      (omega arith)

-- the parts that the code has are those of the file
pub parts-read : (f : File) (name : List ℕ) (khz : ℕ) (t : Timing) (ns : List ℕ) (h v : Bool) → t ≡ timing_in f → ns ≡ numbers_out t
    → h ≡ minus_in f 6 → v ≡ minus_in f 7 → spelled (parts_with name khz ns h v) ≡ line_out f name khz
unfolding line_out parts_out
parts-read f name khz t ns h v et en eh ev = rw (en, et, eh, ev)

module _ (f : File) (name : List ℕ) (khz : ℕ) (before : List ℕ) where
  refused : (v : Verdict) → Err v ≡ write_verdict f name khz (length before) → done {A = ℕ} (Err v) ≡ false → WroteFrom f name khz before before (Err v)
  refused v e n =
      record {
        answered = e;
        bytes = ap (λ (b : Bool). cond b (line_out f name khz ++ drop (length (line_out f name khz)) before) before) (sym n);
      }

  pub write-unsound : sound f ≡ false → WroteFrom f name khz before before (Err NotSound)
  unfolding write_verdict done number_of code_said
  write-unsound s = refused NotSound (rw s) refl

  abbrev asked : Bool
  asked = name_fits name && clock_fits khz && leb 256 (length before)

  pub write-unfit : sound f ≡ true → asked ≡ false → WroteFrom f name khz before before (Err OutOfForm)
  unfolding write_verdict done number_of code_said
  write-unfit s e = refused OutOfForm (rw (s, e)) refl

  pub write-other : sound f ≡ true → asked ≡ true → of_form (timing_in f) ≡ false → WroteFrom f name khz before before (Err OtherTiming)
  unfolding write_verdict done number_of code_said
  write-other s e o = refused OtherTiming (rw (s, e, o)) refl

  pub write_done : (after : List ℕ) (size : ℕ) → sound f ≡ true → asked ≡ true → of_form (timing_in f) ≡ true → Wrote before 0 (line_out f name khz) after size
      → length (line_out f name khz) ≤ length before → WroteFrom f name khz before after (Ok size)
  unfolding write_verdict done number_of code_said
  write_done after size s e o w room =
      let long : 0 + length (line_out f name khz) ≡ length (line_out f name khz) = omega arith in
      record {
        answered = ap Ok (w.place ∙ long) ∙ sym (rw (s, e, o));
        bytes =
            w.bytes ∙ sets-eq (line_out f name khz) before 0 (omega (arith, room))
            ∙ ap (λ (k : ℕ). line_out f name khz ++ drop k before) long;
      }

-- the timing that was read of a sound file
pub timing-read : (f : File) (r : Read) → sound f ≡ true → r ≡ read_timing f → r.timing ≡ timing_in f
unfolding read_timing
timing-read f r s e = ap (λ (x : Read). x.timing) e ∙ chosen-timing (sound f) s
  where
    chosen-timing : (b : Bool) → b ≡ true → (cond {A = Read} b (record { answer = Answered 0; timing = timing_in f }) (record { answer = Unsound; timing = timing_of [] })).timing ≡ timing_in f
    chosen-timing true h = refl
    chosen-timing false h = absurd (true≢false (sym h))
