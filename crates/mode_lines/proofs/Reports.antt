-- A report: from what it is put together, and that it is short. Assumes nothing.
use Prim.Native.Nat.{ℕ, ◌+◌, ◌^◌, ◌≤◌, ◌<◌}
use mathlib.Core.Bool.{true, false}
use mathlib.Core.List.{List, []}
use mathlib.Core.Path.{◌≡◌, refl, sym, subst}
use native.Mathlib.Numerals.{add-one}
use native.Mathlib.Omega.{arith}
use borrow.Author.Tests.{leb-true, le-leb}
use lib.Dec.{leb, lit<}
use lib.ListN.{length, length-append}
use Rattle.bits.proofs.Test.{by-test}
use Rattle.file.specs.declared.answer.Answer.TheVariants.{Done as Answered, ShortBuffer}
use Rattle.file.specs.declared.registers.File.{File}
use Rattle.file.specs.Answers.{code_of, refused}
use Rattle.file.specs.Readers.{ascii}
use Rattle.file.specs.Sound.{sound}
use Rattle.replaying.specs.Replay.{timing_most}
use Rattle.replaying.proofs.Timed.{line-short}
use Rattle.text.specs.declared.placed.Placed.{Placed}
use Rattle.text.specs.Lent.{Lined}
use Rattle.text.specs.Text.{decimal, decimal_places, newline, signed, space, spaced, timing_line}
use Rattle.text.proofs.Places.{most-places}
use Rattle.text.proofs.Spaced.{numbers-length}
use Rattle.text.proofs.Spelled.{digits-length}
use Rattle.text.proofs.Stores.{unplaced, whole}
use Rattle.timing.specs.Timing.{numbers_of, read_timing, timing_in, timing_of}
use Rattle.mode_file.specs.declared.verdict.Verdict.{Verdict}
use Rattle.mode_file.specs.declared.verdict.Verdict.TheVariants.{Locked, OutOfRange, NotSound, BadText, NotMultiple, OtherTiming, OutOfForm}
use Rattle.mode_file.specs.Verdicts.{number_of, position_of, code_said, position_said}
use Rattle.mode_file.specs.declared.into.LineSaid.{LineSaid}
use Rattle.std.specs.Prelude.{Result, Ok, Err, MatchResult}
use Rattle.mode_lines.specs.Kept.{Kept}
use Rattle.mode_lines.specs.Report.{Reported, front, hex_two, left_text, mode_text, report_answer, report_line, report_most}
use Rattle.mode_lines.proofs.Laying.{kept_whole}

-- at most so many digits
decimal-most : (j n : ℕ) → n < 10 ^ (j + 1) → length (decimal n) ≤ j + 1
unfolding decimal
decimal-most j n h = omega (arith, digits-length (decimal_places n n) n, most-places j n n (subst (λ (k : ℕ). n < 10 ^ k) (add-one j) h))

code-small : (v : Verdict) → number_of v < 100
unfolding number_of
code-small Locked = omega arith
code-small OutOfRange = omega arith
code-small NotSound = omega arith
code-small (BadText place) = omega arith
code-small NotMultiple = omega arith
code-small OtherTiming = omega arith
code-small OutOfForm = omega arith

-- the fifteen numbers
sound-short : (f : File) → length (spaced [] (numbers_of (timing_in f))) ≤ 165
unfolding timing_line timing_most ascii
sound-short f = omega (arith, line-short f, numbers-length (ascii "timing") [] (numbers_of (timing_in f)))

none-short : length (spaced [] (numbers_of (timing_of []))) ≤ 165
unfolding numbers_of timing_of spaced signed decimal decimal_places space
none-short = omega arith

timing-short : (f : File) → length (spaced [] (numbers_of (read_timing f).timing)) ≤ 165
unfolding read_timing
timing-short f = by-test (sound f) (λ e. rw e (sound-short f)) (λ e. rw e none-short)

-- a number, a code and a position of the code's types
front-short : (number code position : ℕ) → number < 2 ^ 64 → code < 100 → position < 2 ^ 64 → length (front number code position) ≤ 44
unfolding front space
front-short number code position hn hc hp =
    simp length-append
    (omega (
      arith,
      decimal-most 1 code hc,
      decimal-most 19 number (omega (arith, hn, lit< {m = 18446744073709551615} {n = 10 ^ 20} tt)),
      decimal-most 19 position (omega (arith, hp, lit< {m = 18446744073709551615} {n = 10 ^ 20} tt)),
    ))

-- and a clock
left-short : (khz : ℕ) (f : File) → khz < 2 ^ 32 → length (mode_text khz f) ≤ 180
unfolding mode_text hex_two space
left-short khz f hk = simp length-append (omega (arith, decimal-most 9 khz (omega (arith, hk)), timing-short f))

-- what a refusal and a line that was read have
abbrev pub Typed : Result LineSaid Verdict → Type 0
Typed (Ok said) = said.khz < 2 ^ 32
Typed (Err v) = position_of v < 2 ^ 64

pub typed : (length-of : ℕ) (r : Result LineSaid Verdict) → length-of < 2 ^ 64 → MatchResult r (λ said. said.khz ≤ 999999) (λ v. position_of v ≤ length-of) → Typed r
typed n (Ok said) h m = omega (arith, m)
typed n (Err v) h m = omega (arith, h, m)

pub report-short : (number : ℕ) (said : Result LineSaid Verdict) (f : File) → number < 2 ^ 64 → Typed said
    → length (report_line number (record { said = said; file = f })) ≤ report_most
unfolding report_line report_most newline code_said position_said left_text
report-short number (Ok said) f hn hk = simp length-append (omega (arith, front-short number 0 0 hn (omega arith) (omega arith), left-short said.khz f hk))
report-short number (Err v) f hn hp = simp length-append (omega (arith, front-short number (number_of v) (position_of v) hn (code-small v) hp))

module _ (before : List ℕ) (at : ℕ) (text : List ℕ) where
  -- no room: nothing is laid
  pub no-report : leb (at + 256) (length before) ≡ false → Lined (report_answer before at) at text before before (record { answer = ShortBuffer; end = at })
  unfolding report_answer report_most refused code_of
  no-report e = unplaced before at text ShortBuffer (rw e) refl

  pub a-report : {after : List ℕ} {end : ℕ} → leb (at + 256) (length before) ≡ true → length text ≤ report_most → Kept before at text after end
      → Lined (report_answer before at) at text before after (record { answer = Answered 0; end = end })
  unfolding report_answer report_most
  a-report e h w =
      let room : at + length text ≤ length before = omega (arith, leb-true (at + 256) (length before) e, h) in
      whole before at text (rw e) room (kept_whole before at text room w)

  -- and no more than has room
  pub report-ends : {after : List ℕ} {end : ℕ} → leb (at + 256) (length before) ≡ true → length text ≤ report_most → Kept before at text after end → end ≤ at + 256
  unfolding report_most
  report-ends e h w =
      let room : at + length text ≤ length before = omega (arith, leb-true (at + 256) (length before) e, h) in
      omega (arith, (kept_whole before at text room w).place, h)

-- with room for it the answer is 0
pub report-done : (line : List ℕ) (f : File) (number at : ℕ) (before after : List ℕ) (r : Placed) → at + 256 ≤ length before → Reported line f number at before after r
    → Reported line f number at before after (record { answer = Answered 0; end = r.end })
unfolding report_answer report_most
report-done line f number at before after r h w =
    record {
      read = w.read;
      into = w.into;
      lined =
          record {
            answered = sym (rw (le-leb (at + 256) (length before) h));
            ended = w.lined.ended;
            bytes = w.lined.bytes;
          };
    }
