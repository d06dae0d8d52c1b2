-- 02, 4/13: 'A line written .. reads back into any sound unlocked file of equal CR1B as the same name, clock, timing and flags.' Assumes nothing.
use Prim.Native.Nat.{ℕ}
use mathlib.Core.Bool.{Bool, true, false, cond, ◌&&◌, ◌||◌}
use mathlib.Core.List.{List, ◌++◌}
use mathlib.Core.Path.{◌≡◌, refl, sym, ap, ap₂, ◌∙◌, subst}
use native.Mathlib.Omega.{arith}
use lib.Dec.{T, eqb, leb}
use lib.ListN.{length, take, drop}
use lib.Seq.{take_at}
use Rattle.bits.proofs.Test.{is_true, left, right, passes}
use Rattle.bits.specs.Numbers.{all_in_range}
use Rattle.bits.specs.Store.{bit}
use Rattle.file.specs.Answers.{code_of}
use Rattle.file.specs.File.{register, crtc_locked}
use Rattle.file.specs.Names.{CR1B}
use Rattle.file.specs.Sound.{sound}
use Rattle.file.specs.declared.answer.Answer.TheVariants.{Done as Answered}
use Rattle.file.specs.declared.registers.File.{File}
use Rattle.timing.proofs.Ranges.{in-ranges, read-in-ranges}
use Rattle.timing.proofs.Writer.{accepted-by-range}
use Rattle.timing.specs.Table.{table, wide}
use Rattle.timing.specs.Timing.{numbers_of, timing_in, timing_answer}
use Rattle.modes.proofs.Once.{told-good}
use Rattle.mode_file.proofs.Laws.{line_read, ok-same}
use Rattle.mode_file.specs.Promises.{name_in}
use Rattle.mode_file.specs.Into.{said_of, flagged_line, done_line, by_code, mode_line, read_mode, read_parsed, read_result, answered, read_with, ReadInto}
use Rattle.mode_file.specs.Said.{timing_said, with_mode}
use Rattle.mode_file.specs.Verdicts.{number_of, code_said}
use Rattle.modes.specs.declared.mode.Mode.{Mode}
use Rattle.std.specs.Prelude.{Result, Ok, Err}
use Rattle.mode_file.specs.declared.into.ReadLine.{ReadLine}
use Rattle.mode_file.specs.declared.verdict.Verdict.{Verdict}
use Rattle.mode_file.specs.declared.verdict.Verdict.TheVariants.{NotSound, OtherTiming, OutOfForm}
use Rattle.mode_text.specs.Out.{name_fits, clock_fits, of_form, numbers_out, parts_out, line_out, minus_in, write_verdict, done, WroteFrom}
use Rattle.mode_text.specs.Promises.{SameMode}
use Rattle.mode_text.proofs.ModeInFile.{mode-timing, mode-flags}
use Rattle.mode_text.proofs.NumbersSaid.{of-form-said, out-even}
use Rattle.mode_text.proofs.WrittenGood.{mode_out, parts-formed, written-good}

module _ (f g : File) (name : List ℕ) (khz : ℕ) (n : T (name_fits name)) (c : T (clock_fits khz)) (o : T (of_form (timing_in f)))
    (s : T (sound g)) (u : crtc_locked g ≡ false) (same : register g CR1B ≡ register f CR1B) where
  same_width : wide g ≡ wide f
  unfolding wide
  same_width = ap (λ (x : ℕ). eqb (bit 5 x) 1 || eqb (bit 7 x) 1) same

  accepts : timing_answer g (timing_said (numbers_out (timing_in f))) ≡ Answered 0
  accepts =
      ap (timing_answer g) (of-form-said (timing_in f) o)
      ∙ (accepted-by-range g (timing_in f) s u).1
      (subst (λ (w : Bool). T (all_in_range (table w) (numbers_of (timing_in f)))) (sym same_width)
      (subst (λ (b : Bool). T b) (sym (in-ranges (wide f) (numbers_of (timing_in f)))) (read-in-ranges f)))

  -- the line is read, with its name and its clock
  done-again : (r : ReadLine) → ReadInto (line_out f name khz) g r → r ≡ done_line (mode_out f name khz) g
  unfolding read_with answered read_result read_parsed read_mode mode_line by_code mode_out code_of
  done-again r met =
      met.answers
      ∙ ap (λ (p : Result Mode ℕ). read_with p g) (told-good (line_out f name khz) (mode_out f name khz) met.parsed (written-good f name khz n c) met.told)
      ∙ rw (is_true (sound g) s, out-even (timing_in f), accepts)

  -- and the file has the same timing and the same flags
  reads-back : (r : ReadLine) → ReadInto (line_out f name khz) g r → SameMode f name khz (line_out f name khz) r
  unfolding done_line flagged_line said_of with_mode mode_out code_said line_out parts_out
  reads-back r met =
      let all = done-again r met in
      let read = line_read (line_out f name khz) g r met (ap (λ (x : ReadLine). code_said x.said) all) (parts_out f name khz) (parts-formed f name khz n c) refl in
      let put : r.file ≡ with_mode (mode_out f name khz) g = ap (λ (x : ReadLine). x.file) all in
      record {
        said = said_of (mode_out f name khz);
        answered = ap (λ (x : ReadLine). x.said) all;
        same_name = ap (name_in (line_out f name khz)) (ok-same (sym (ap (λ (x : ReadLine). x.said) all) ∙ read.answered)) ∙ read.name;
        same-clock = refl;
        same-timing = ap timing_in put ∙ mode-timing g (mode_out f name khz) s accepts ∙ of-form-said (timing_in f) o;
        same_flags = (
          ap (λ (x : File). minus_in x 6) put ∙ (mode-flags g (mode_out f name khz) s accepts).0,
          ap (λ (x : File). minus_in x 7) put ∙ (mode-flags g (mode_out f name khz) s accepts).1,
        );
      }

-- what a line that was written passed
record Passed (f : File) (name : List ℕ) (khz : ℕ) : Type 0 where
  named : T (name_fits name)
  clocked : T (clock_fits khz)
  formed : T (of_form (timing_in f))

passed : (f : File) (name : List ℕ) (khz room size : ℕ) → write_verdict f name khz room ≡ Ok size → Passed f name khz
unfolding write_verdict number_of code_said
passed f name khz room size e =
    by_tests (sound f) (name_fits name && clock_fits khz && leb 256 room) (of_form (timing_in f)) refl refl e
  where
    by_tests : (a b d : Bool) → name_fits name && clock_fits khz && leb 256 room ≡ b → of_form (timing_in f) ≡ d
        → ◌≡◌ {A = Result ℕ Verdict} (cond a (cond b (cond d (Ok (length (line_out f name khz))) (Err OtherTiming)) (Err OutOfForm)) (Err NotSound)) (Ok size) → Passed f name khz
    by_tests true true true p q z =
        let t : T (name_fits name && clock_fits khz && leb 256 room) = passes _ p in
        record {
          named = left (name_fits name) (clock_fits khz) (left (name_fits name && clock_fits khz) (leb 256 room) t);
          clocked = right (name_fits name) (clock_fits khz) (left (name_fits name && clock_fits khz) (leb 256 room) t);
          formed = passes _ q;
        }
    by_tests true true false p q z = absurd (let x : ◌≡◌ {A = ℕ} 21 0 = ap code_said z in omega arith)
    by_tests true false d p q z = absurd (let x : ◌≡◌ {A = ℕ} 22 0 = ap code_said z in omega arith)
    by_tests false b d p q z = absurd (let x : ◌≡◌ {A = ℕ} 12 0 = ap code_said z in omega arith)

-- what is written is done
pub done-ok : (size : ℕ) → done {A = ℕ} (Ok size) ≡ true
unfolding done code_said
done-ok size = refl

-- a line that was written has its size
pub written-size : (f : File) (name : List ℕ) (khz room size : ℕ) → write_verdict f name khz room ≡ Ok size → size ≡ length (line_out f name khz)
unfolding write_verdict
written-size f name khz room size e = by_tests (sound f) (name_fits name && clock_fits khz && leb 256 room) (of_form (timing_in f)) e
  where
    by_tests : (a b d : Bool)
        → ◌≡◌ {A = Result ℕ Verdict} (cond a (cond b (cond d (Ok (length (line_out f name khz))) (Err OtherTiming)) (Err OutOfForm)) (Err NotSound)) (Ok size)
        → size ≡ length (line_out f name khz)
    by_tests true true true z = cc z
    by_tests true true false z = cc z
    by_tests true false d z = cc z
    by_tests false b d z = cc z

-- by the contracts of `write_from` and `read_into`
pub written-reads-back : (f : File) (name : List ℕ) (khz : ℕ) (before after : List ℕ) (w : Result ℕ Verdict) → WroteFrom f name khz before after w
    → (size : ℕ) → w ≡ Ok size → (g : File) → T (sound g) → crtc_locked g ≡ false → register g CR1B ≡ register f CR1B
    → (r : ReadLine) → ReadInto (take size after) g r → SameMode f name khz (take size after) r
unfolding done code_said
written-reads-back f name khz before after w wrote size e g s u same =
    let written = sym wrote.answered ∙ e in
    let p = passed f name khz (length before) size written in
    let line : take size after ≡ line_out f name khz =
    ap₂ take (written-size f name khz (length before) size written)
    (wrote.bytes ∙ ap (λ (x : Result ℕ Verdict). cond (done x) (line_out f name khz ++ drop (length (line_out f name khz)) before) before) e)
    ∙ take_at (line_out f name khz) (drop (length (line_out f name khz)) before) (length (line_out f name khz)) refl in
    subst (λ (l : List ℕ). (r : ReadLine) → ReadInto l g r → SameMode f name khz l r) (sym line)
    (reads-back f g name khz p.named p.clocked p.formed s u same)
