-- The line of a file and its newline, from what was written. Assumes nothing.
use Prim.Native.Nat.{ℕ, ◌+◌, ◌≤◌}
use mathlib.Core.Bool.{Bool, true, cond, ◌&&◌}
use mathlib.Core.List.{List, [], ◌∷◌, ◌++◌}
use mathlib.Core.Path.{◌≡◌, refl, sym, ap, ap₂, ◌∙◌}
use native.Mathlib.Omega.{arith}
use lib.Dec.{leb, leb→le}
use lib.ListN.{length, drop, length-append}
use lib.Seq.{take_all}
use Rattle.bits.proofs.Test.{by-test, left, right, passes}
use Rattle.file.specs.declared.registers.File.{File}
use Rattle.file.specs.Sound.{sound}
use Rattle.text.specs.Text.{newline}
use Rattle.std.specs.Prelude.{Result, Ok, Err}
use Rattle.mode_file.specs.declared.verdict.Verdict.{Verdict}
use Rattle.mode_file.specs.Verdicts.{number_of, code_said}
use Rattle.mode_file.proofs.Codes.{refusal-code}
use Rattle.mode_text.proofs.RoundTrip.{written-size, done-ok}
use Rattle.mode_text.specs.Out.{clock_fits, done, line_out, name_fits, write_verdict}
use Rattle.mode_text.proofs.Short.{line-short}
use Rattle.mode_lines.specs.ClockLine.{LineOf}
use Rattle.mode_lines.specs.Kept.{Kept, kept_text}
use Rattle.mode_lines.proofs.Laying.{kept_then}
use Rattle.job_modeline.specs.OneLine.{LinePut, line_with, text_end}

module _ (f : File) (name : List ℕ) (khz room : ℕ) where
  abbrev pub Asked : Bool
  Asked = name_fits name && clock_fits khz && leb 256 room

  -- a line that is written was asked for in form, and has room
  pub in-form : code_said (write_verdict f name khz room) ≡ 0 → Asked ≡ true
  unfolding write_verdict number_of code_said
  in-form e = by-test (sound f) (λ s. by-test Asked (λ a. a) (λ a. absurd (omega (arith, rw (s, a) at e)))) (λ s. absurd (omega (arith, rw s at e)))

  room_for : code_said (write_verdict f name khz room) ≡ 0 → length (line_out f name khz) + 1 ≤ room
  room_for e =
      let asked = passes Asked (in-form e) in
      let both = left (name_fits name && clock_fits khz) (leb 256 room) asked in
      omega (
        arith,
        line-short f name khz (left (name_fits name) (clock_fits khz) both) (right (name_fits name) (clock_fits khz) both),
        leb→le 256 room (right (name_fits name && clock_fits khz) (leb 256 room) asked),
      )

-- what is put has the code of what was written
pub end-code : (text : List ℕ) (r : Result ℕ Verdict) → code_said (text_end text r) ≡ code_said r
unfolding text_end code_said
end-code text (Ok size) = refl
end-code text (Err v) = refl

-- a text that has room, laid from the buffer's start on
start-text : (text before : List ℕ) → length text ≤ length before → kept_text before 0 text ≡ text
unfolding kept_text
start-text text before h = take_all (length before) text h

pub line-none : (f : File) (name mhz out₀ mid : List ℕ) (v : Verdict) → LineOf f name mhz out₀ mid (Err v) → LinePut f name mhz out₀ mid (Err v)
unfolding text_end done code_said
line-none f name mhz out₀ mid v line =
    let none = refusal-code v in
    record {
      khz = line.khz;
      said = line.said;
      answered = ap (text_end (line_with f name line.khz)) line.wrote.answered;
      stored =
          line.wrote.bytes
          ∙ ap (λ (b : Bool). cond b (line_out f name line.khz ++ drop (length (line_out f name line.khz)) out₀) out₀) none
          ∙ sym (ap (λ (b : Bool). cond b (line_with f name line.khz ++ drop (length (line_with f name line.khz)) out₀) out₀) none);
    }

module _ (f : File) (name mhz out₀ mid : List ℕ) (size : ℕ) (line : LineOf f name mhz out₀ mid (Ok size)) (out : List ℕ) (end : ℕ)
    (kept : Kept mid size (0x0A ∷ []) out end) where
  abbrev Line : List ℕ
  Line = line_out f name line.khz

  fit : length Line + 1 ≤ length out₀
  unfolding code_said
  fit = room_for f name line.khz (length out₀) (sym (ap code_said line.wrote.answered))

  sized : size ≡ length Line
  sized = written-size f name line.khz (length out₀) size (sym line.wrote.answered)

  laid : Kept out₀ 0 Line mid size
  laid =
      let same = start-text Line out₀ (omega (arith, fit)) in
      record {
        size = sized ∙ ap length (sym same);
        stored =
            line.wrote.bytes ∙ ap (λ (b : Bool). cond b (Line ++ drop (length Line) out₀) out₀) (done-ok size)
            ∙ ap₂ (λ (t : List ℕ) (k : ℕ). t ++ drop k out₀) (sym same) (sym sized);
      }

  both : Kept out₀ 0 (Line ++ 0x0A ∷ []) out end
  both = kept_then laid kept

  same-both : kept_text out₀ 0 (Line ++ 0x0A ∷ []) ≡ Line ++ 0x0A ∷ []
  same-both = start-text (Line ++ 0x0A ∷ []) out₀ (rw length-append (omega (arith, fit)))

  ends : end ≡ length (Line ++ 0x0A ∷ [])
  ends = both.size ∙ ap length same-both

  pub line-put : LinePut f name mhz out₀ out (Ok end)
  unfolding line_with newline text_end
  line-put =
      record {
        khz = line.khz;
        said = line.said;
        answered = ap Ok ends ∙ ap (text_end (Line ++ 0x0A ∷ [])) line.wrote.answered;
        stored =
            both.stored ∙ ap₂ (λ (t : List ℕ) (k : ℕ). t ++ drop k out₀) same-both ends
            ∙ sym (ap (λ (b : Bool). cond b ((Line ++ 0x0A ∷ []) ++ drop (length (Line ++ 0x0A ∷ [])) out₀) out₀) (done-ok end));
      }
