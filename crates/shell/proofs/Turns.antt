-- A turn, and a course of turns: what was read and what was handed to be written are what 01 says of the trace. Assumes nothing.
use Rattle.std.proofs.Common.{◌≡◌, ℕ, ◌+◌, ◌*◌, ◌%◌, ◌^◌, ◌<◌, ◌≤◌, Bool, true, false, ◌||◌, T, eqb, List, [], ◌++◌, length, take, drop, sym, refl, ap, ◌∙◌, ap₂, true≢false, zero-add, arith, length-append, take_at, eqb-true}
use borrow.Author.Tests.{eqb-false}
use Rattle.bits.proofs.Test.{by-test, or_left, or_right}
use Rattle.file.specs.declared.chip.Chip.{Chip}
use Rattle.file.specs.declared.registers.File.{File}
use Rattle.file.specs.File.{power_on}
use Rattle.file.specs.Sound.{sound}
use Rattle.file.specs.State.{initial}
use Rattle.file.proofs.Soundness.{power_on-sound}
use Rattle.timing.specs.Timing.{timing_in}
use Rattle.trace.specs.Records.{items, item_count}
use Rattle.trace.specs.Run.{file_after}
use Rattle.replaying.specs.declared.Part.{Part}
use Rattle.replaying.specs.Replay.{Parted, after_part, asked, part_lines, record_lines, replayed, replayed_from}
use Rattle.text.specs.Text.{timing_line}
use Rattle.replaying.proofs.Pieces.{file-parts, lines-parts, parts-count}
use Rattle.replaying.proofs.Whole.{part_sound}
use Rattle.io.specs.Counts.{IsPrefixLen}
use Rattle.shell.specs.declared.course.Course.{Course}
use Rattle.shell.specs.declared.course.Turn.{Turn}
use Rattle.shell.specs.declared.reading.Filled.{Filled}
use Rattle.shell.specs.declared.telling.Handed.{Handed}
use Rattle.shell.specs.Parts.{Brought, Came, Finished, HandedOn, Turned, Turns, beginning, counted, course_after, course_of, failed_after, has_failed, turn_lines, with_read}
use Rattle.shell.specs.Parts.Turns.{none, then, unread, unwritten}
use Rattle.shell.proofs.Bounds.{counts}

-- nothing is asked for of no part
none-asked : (prints : Bool) (number : ℕ) (f : File) → asked prints number f [] ≡ []
unfolding asked part_lines item_count items record_lines
none-asked true number f = refl
none-asked false number f = refl

pub none_after : (f : File) → f ≡ after_part f []
unfolding after_part item_count items file_after
none_after f = refl

-- what a turn's buffer holds up to where its lines end is its lines
pub made : {prints : Bool} {before : Course} {part replies₀ replies lines₀ lines : List ℕ} {r : Turn}
    → Turned before prints part replies₀ replies lines₀ lines r → take r.end lines ≡ turn_lines prints before part
made {prints} {before} {part} {replies₀} {replies} {lines₀} {lines} {r} t =
    ap (take r.end) t.printed ∙ take_at (turn_lines prints before part) (drop r.end lines₀) r.end (sym t.end)

-- they are in it
pub lines-within : {prints : Bool} {before : Course} {part replies₀ replies lines₀ lines : List ℕ} {r : Turn}
    → Turned before prints part replies₀ replies lines₀ lines r → IsPrefixLen r.end lines
lines-within {prints} {before} {part} {replies₀} {replies} {lines₀} {lines} {r} t =
    counts lines r.end (omega (arith, t.end, ap length t.printed ∙ length-append (turn_lines prints before part) (drop r.end lines₀)))

-- a part that was run is a turn
pub turn-done : (before : Course) (prints : Bool) (part replies₀ replies lines₀ lines : List ℕ) (p : Part) (more : Bool)
    → Parted before.file before.number prints part replies₀ replies lines₀ lines p → more ≡ eqb (length part) 8192
    → Turned before prints part replies₀ replies lines₀ lines
    (record {
      end = p.end;
      course = record { file = p.file; number = before.number + p.count; more = more; read = before.read; handed = before.handed };
    })
unfolding course_after turn_lines
turn-done before prints part replies₀ replies lines₀ lines p more parted full =
    record {
      end = parted.end;
      course = rw (parted.file, parted.count, full) refl;
      replied = parted.replied;
      printed = parted.printed;
    }

-- a course with more to read has not failed
pub more-unfailed : {chip : Chip} {prints : Bool} {trace text : List ℕ} {r : Course} → Turns chip prints trace text r → r.more ≡ true → has_failed r ≡ false
unfolding beginning course_after failed_after has_failed
more-unfailed none more = refl
more-unfailed (then part read handed turns brought on) more = rw (brought.so, on.so) refl
more-unfailed (unread part read turns brought) more = absurd (true≢false (sym more))
more-unfailed (unwritten part read handed turns brought on) more = absurd (true≢false (sym more))

-- what a course without a failure has come to, by the trace that was read
pub record Stands (chip : Chip) (prints : Bool) (trace text : List ℕ) (r : Course) : Type 0 where
  pub file : r.file ≡ after_part (power_on chip) trace
  pub number : r.number ≡ item_count trace
  pub printed : text ≡ asked prints 0 (power_on chip) trace
  pub whole : r.more ≡ true → length trace % 8192 ≡ 0
  pub last : r.more ≡ false → r.read.count ≡ length trace % 8192

asked-parts : (prints : Bool) (f : File) (trace part : List ℕ) → length trace % 8 ≡ 0
    → asked prints 0 f trace ++ asked prints (item_count trace) (after_part f trace) part ≡ asked prints 0 f (trace ++ part)
unfolding asked
asked-parts true f trace part whole = sym (lines-parts trace part whole 0 f ∙ rw zero-add refl)
asked-parts false f trace part whole = refl

pub turns-stand : {chip : Chip} {prints : Bool} {trace text : List ℕ} {r : Course} → Turns chip prints trace text r → has_failed r ≡ false → Stands chip prints trace text r
unfolding beginning course_after failed_after turn_lines item_count has_failed
turns-stand (unread part read turns brought) e = absurd (true≢false (rw brought.so at e))
turns-stand (unwritten part read handed turns brought on) e = absurd (true≢false (rw (brought.so, on.so) at e))
turns-stand {chip} {prints} none e =
    record { file = none_after (power_on chip); number = refl; printed = sym (none-asked prints 0 (power_on chip)); whole = λ _. refl; last = λ e. absurd (true≢false e) }
turns-stand {chip} {prints} (then {trace} {text} {before} part read handed turns brought on) e =
    let held = turns-stand turns (more-unfailed turns brought.goes) in
    let parts : length trace % 8192 ≡ 0 = held.whole brought.goes in
    let whole : length trace % 8 ≡ 0 = omega (arith, parts) in
    record {
      file = ap (λ (f : File). after_part f part) held.file ∙ sym (file-parts trace part whole (power_on chip));
      number = ap (λ (k : ℕ). k + item_count part) held.number ∙ sym (parts-count trace part whole);
      printed =
          ap₂ (λ (a b : List ℕ). a ++ b) held.printed
          (ap₂ (λ (k : ℕ) (f : File). asked prints k f part) held.number held.file)
          ∙ asked-parts prints (power_on chip) trace part whole;
      whole =
          λ more. let full : length part ≡ 8192 = eqb-true _ _ more in
          rw length-append (omega (arith, parts, full));
      last =
          λ more. let short : length part ≡ 8192 → ⊥ = eqb-false _ _ more in
          rw length-append (omega (arith, parts, short, brought.within, brought.count));
    }

pub counted-on : (before all : ℕ) (xs ys : List ℕ) → before ≡ length xs % 2 ^ 64 → all ≡ counted before (length ys) → all ≡ length (xs ++ ys) % 2 ^ 64
counted-on before all xs ys e counts = rw length-append (omega (arith, e, counts))

-- what a course says was read and handed to be written, in all: as many bytes as its trace and its text have
pub turns-counted : {chip : Chip} {prints : Bool} {trace text : List ℕ} {r : Course} → Turns chip prints trace text r
    → (r.read.all ≡ length trace % 2 ^ 64) × (r.handed.all ≡ length text % 2 ^ 64)
unfolding beginning course_after failed_after
turns-counted none = (refl, refl)
turns-counted (unread {trace} part read turns brought) =
    (counted-on _ _ trace part (turns-counted turns).0 brought.all, (turns-counted turns).1)
turns-counted {chip} {prints} (then {trace} {text} {before} part read handed turns brought on) = (
  counted-on _ _ trace part (turns-counted turns).0 brought.all,
  counted-on _ _ text (turn_lines prints before part) (turns-counted turns).1 on.all,
)
turns-counted {chip} {prints} (unwritten {trace} {text} {before} part read handed turns brought on) = (
  counted-on _ _ trace part (turns-counted turns).0 brought.all,
  counted-on _ _ text (turn_lines prints before part) (turns-counted turns).1 on.all,
)

-- 01, 'It reads a trace on standard input from power-on. For each record .. Last comes one line': what the turns handed to be written, and
-- then the timing line of the file that they came to, is what is printed of the trace that they read
pub turns-replayed : {chip : Chip} {trace text : List ℕ} {r : Course} → Turns chip true trace text r → has_failed r ≡ false
    → text ++ timing_line (timing_in r.file) ≡ replayed chip trace
unfolding asked replayed replayed_from part_lines after_part
turns-replayed turns e =
    let held = turns-stand turns e in
    rw (held.printed, held.file) refl

-- a course that came to its end without a failure is a function of the trace that was read
pub course-of : {chip : Chip} {prints : Bool} {r : Course} (c : Came chip prints r) → has_failed r ≡ false → r ≡ course_of chip prints c.trace
unfolding course_of has_failed
course-of {chip} {prints} {r} c e =
    let held = turns-stand c.turns e in
    let all = turns-counted c.turns in
    λ i. record {
      file = held.file i;
      number = held.number i;
      more = c.ended i;
      read = record { count = held.last c.ended i; failed = or_left r.read.failed r.handed.failed e i; all = all.0 i };
      handed =
          record {
            all = (all.1 ∙ ap (λ (l : List ℕ). length l % 2 ^ 64) held.printed) i;
            failed = or_right r.read.failed r.handed.failed e i;
          };
    }

pub more-sound : {chip : Chip} {prints : Bool} {trace text : List ℕ} {r : Course} → Turns chip prints trace text r → has_failed r ≡ false → T (sound r.file)
more-sound {chip} {trace = trace} turns e = rw (turns-stand turns e).file (part_sound (power_on chip) trace (power_on-sound chip))

-- a course on its way, after so many turns: each turn that leaves more to read took 1,024 records
pub record Coming (chip : Chip) (prints : Bool) (turns : ℕ) (r : Course) : Type 0 where
  pub trace : List ℕ
  pub text : List ℕ
  pub led : Turns chip prints trace text r
  pub low : r.number < 2 ^ 64
  pub taken : r.more ≡ true → r.number ≡ 1024 * turns

pub coming-none : (chip : Chip) (prints : Bool) (r : Course) → r ≡ beginning chip → Coming r.file.state.chip prints 0 r
unfolding beginning power_on initial
coming-none chip prints r e =
    rw e (record { trace = []; text = []; led = none; low = omega arith; taken = λ _. refl })

-- a part that was asked for, and what the test of its failure said
pub brought : {failed test : Bool} {before : Course} {part : List ℕ} {read : Filled} → before.more ≡ true → read.count ≡ length part
    → (read.count ≤ 8192) × ((read.all ≡ counted before.read.all read.count) × (read.failed ≡ false → before.number + 1024 < 2 ^ 64))
    → test ≡ read.failed → test ≡ failed → Brought failed before part read
brought {before = before} goes count so tested test =
    record {
      goes = goes;
      count = count;
      within = omega (arith, count, so.0);
      all = so.1.0 ∙ ap (counted before.read.all) count;
      so = sym tested ∙ test;
    }

-- the course with what was handed to be written
abbrev with_handed : Handed → Course → Course
with_handed handed c = record { file = c.file; number = c.number; more = c.more; read = c.read; handed = handed }

-- a turn that was taken: its part was read, and its lines were handed on
module _ {chip : Chip} {prints : Bool} {turns : ℕ} {before : Course} (read : Filled) (part replies₀ replies lines₀ lines : List ℕ) (r : Turn) (handed : Handed)
    (come : Coming chip prints turns before) (turned : Turned (with_read read before) prints part replies₀ replies lines₀ lines r)
    (brought : Brought false before part read)
    (all : handed.all ≡ counted r.course.handed.all (length (take r.end lines))) where
  after : with_handed handed r.course ≡ course_after read handed before part
  unfolding course_after
  after = ap (with_handed handed) turned.course

  on : (failed : Bool) → handed.failed ≡ failed → HandedOn failed prints before part handed
  unfolding course_after turn_lines
  on failed so =
      record {
        all =
            all ∙ ap₂ (λ (k : ℕ) (l : List ℕ). counted k (length l)) (ap (λ (c : Course). c.handed.all) turned.course) (made turned);
        so = so;
      }

  pub coming-on : handed.failed ≡ false → r.course.number < 2 ^ 64 → Coming chip prints (turns + 1) (with_handed handed r.course)
  unfolding course_after item_count
  coming-on written low =
      record {
        trace = come.trace ++ part;
        text = come.text ++ turn_lines prints before part;
        led = rw after (then part read handed come.led brought (on false written));
        low = low;
        taken =
            λ more. let full : length part ≡ 8192 = eqb-true _ _ (sym (ap (λ (c : Course). c.more) after) ∙ more) in
            let number = ap (λ (c : Course). c.number) after in
            omega (arith, come.taken brought.goes, full, number);
      }

  -- its lines were not written
  pub came-unwritten : handed.failed ≡ true → (c : Course) → c ≡ failed_after (with_handed handed r.course) → Came chip prints c
  unfolding failed_after course_after
  came-unwritten unwrote c e =
      record {
        trace = come.trace ++ part;
        text = come.text ++ turn_lines prints before part;
        turns = rw (e ∙ ap failed_after after) (unwritten part read handed come.led brought (on true unwrote));
        ended = rw e refl;
      }

-- no run comes to so many turns
pub coming-ended : {chip : Chip} {prints : Bool} {turns : ℕ} {r : Course} → 18446744073709551615 ≤ turns → Coming chip prints turns r → r.more ≡ false
coming-ended {r = r} all come = by-test r.more (λ e. absurd (omega (arith, all, come.taken e, come.low))) (λ e. e)

-- a read that failed
pub came-unread : {chip : Chip} {prints : Bool} {turns : ℕ} {before : Course} (part : List ℕ) (read : Filled) (r : Course) → Coming chip prints turns before
    → Brought true before part read → r ≡ failed_after (with_read read before) → Came chip prints r
unfolding failed_after
came-unread part read r come brought e =
    record { trace = come.trace ++ part; text = come.text; turns = rw e (unread part read come.led brought); ended = rw e refl }

pub came : {chip : Chip} {prints : Bool} {turns : ℕ} {r : Course} → Coming chip prints turns r → r.more ≡ false → Came chip prints r
came come e = record { trace = come.trace; text = come.text; turns = come.led; ended = e }

-- a course has failed if and only if a read or a write of it has
pub turns-failed : {chip : Chip} {prints : Bool} {trace text : List ℕ} {r : Course} → Turns chip prints trace text r
    → has_failed r ≡ r.read.failed || r.handed.failed
unfolding has_failed
turns-failed turns = refl

-- a run that finished left a sound file
pub finished-sound : {prints : Bool} {r : Course} → Finished prints r → T (sound r.file)
finished-sound f = more-sound f.came.turns f.unfailed
