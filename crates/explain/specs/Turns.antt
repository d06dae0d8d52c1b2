-- 'Explain': the program, in turns of a record: what a turn leaves, and the course of turns.
-- Assumes nothing.
use Rattle.std.specs.Prelude.{ℕ, ◌+◌, ◌^◌, ◌≤◌, Bool, true, false, cond, List, [], ◌++◌, ◌≡◌, eqb, length, drop}
use Rattle.file.specs.declared.chip.Chip.{Chip}
use Rattle.file.specs.File.{power_on}
use Rattle.trace.specs.Records.{item_count}
use Rattle.replaying.specs.Replay.{after_part}
use Rattle.shell.specs.Parts.{counted}
use Rattle.shell.specs.declared.reading.Filled.{Filled}
use Rattle.shell.specs.declared.telling.Handed.{Handed}
use Rattle.summing.specs.Closing.{summary_text}
use Rattle.summing.specs.Summed.{begun}
use Rattle.explain.specs.declared.course.Course.{Course}
use Rattle.explain.specs.declared.course.Going.{Going}
use Rattle.explain.specs.declared.course.Going.TheVariants.{More, Ended, Failed}
use Rattle.explain.specs.declared.course.Turn.{Turn}
use Rattle.summing.specs.Told.{closing, part_summed, part_told}

-- there is more to read; something failed
unfoldable pub has_more : Going → Bool
has_more More = true
has_more Ended = false
has_more Failed = false

unfoldable pub has_failed : Going → Bool
has_failed More = false
has_failed Ended = false
has_failed Failed = true

-- a part that is no whole record is the last
unfoldable pub going_behind : ℕ → Going
going_behind size = cond (eqb size 8) More Ended

-- what fails ends the course and leaves the rest of it
unfoldable pub failed_after : Course → Course
failed_after before =
    record { number = before.number; going = Failed; read = before.read; handed = before.handed; file = before.file; summary = before.summary }

-- where there is more to read and no turn is left, the course fails
unfoldable pub over_after : Course → Course
over_after before = cond (has_more before.going) (failed_after before) before

-- the course with what was read
abbrev pub with_read : Filled → Course → Course
with_read read c =
    record { number = c.number; going = c.going; read = read; handed = c.handed; file = c.file; summary = c.summary }

-- what a turn tells of the part that was read
unfoldable pub turn_lines : Bool → Course → List ℕ → List ℕ
turn_lines sums before part = part_told sums before.number before.file part

-- the course after it, with what was read and what was handed to be written
unfoldable pub course_after : Bool → Filled → Handed → Course → List ℕ → Course
course_after sums read handed before part =
    record {
      number = before.number + item_count part;
      going = going_behind (length part);
      read = read;
      handed = handed;
      file = after_part before.file part;
      summary = part_summed sums before.summary before.file part;
    }

-- one turn, a function of the course before, the part that was read and the buffer: where its lines end, the course after it, and every byte
-- of the buffer. It neither reads nor writes
pub record Turned (sums : Bool) (before : Course) (part lines₀ lines : List ℕ) (r : Turn) : Type 0 where
  pub end : r.end ≡ length (turn_lines sums before part)
  pub course : r.course ≡ course_after sums before.read before.handed before part
  pub printed : lines ≡ turn_lines sums before part ++ drop r.end lines₀

-- from a chip's power-on, with the number 0
unfoldable pub beginning : Chip → Course
beginning chip =
    record {
      number = 0;
      going = More;
      read = record { count = 0; failed = false; all = 0 };
      handed = record { all = 0; failed = false };
      file = power_on chip;
      summary = begun (power_on chip);
    }

-- the part of a turn was read, from a course with more to read, or reading failed behind it: what came back counts it
pub record Brought (failed : Bool) (before : Course) (part : List ℕ) (read : Filled) : Type 0 where
  pub goes : has_more before.going ≡ true
  pub count : read.count ≡ length part
  pub within : length part ≤ 8
  pub all : read.all ≡ counted before.read.all (length part)
  pub so : read.failed ≡ failed

-- its lines were handed to be written, or writing them failed: what came back counts them
pub record HandedOn (failed sums : Bool) (before : Course) (part : List ℕ) (handed : Handed) : Type 0 where
  pub all : handed.all ≡ counted before.handed.all (length (turn_lines sums before part))
  pub so : handed.failed ≡ failed

-- a course that turns led to from power-on, each from the one before, with the trace that they read and the text that they handed to be written. What
-- came back of reading and of writing stands in it. A read or a write that fails is its last, and so is a turn behind which 64 bits have no number for
-- a record more
pub data Turns (chip : Chip) (sums : Bool) : List ℕ → List ℕ → Course → Type 0 where
  none : Turns chip sums [] [] (beginning chip)
  then : {trace text : List ℕ} {before : Course} (part : List ℕ) (read : Filled) (handed : Handed) → Turns chip sums trace text before
      → Brought false before part read → HandedOn false sums before part handed
      → Turns chip sums (trace ++ part) (text ++ turn_lines sums before part) (course_after sums read handed before part)
  unread : {trace text : List ℕ} {before : Course} (part : List ℕ) (read : Filled) → Turns chip sums trace text before
      → Brought true before part read → Turns chip sums (trace ++ part) text (failed_after (with_read read before))
  unwritten : {trace text : List ℕ} {before : Course} (part : List ℕ) (read : Filled) (handed : Handed) → Turns chip sums trace text before
      → Brought false before part read → HandedOn true sums before part handed
      → Turns chip sums (trace ++ part) (text ++ turn_lines sums before part) (failed_after (course_after sums read handed before part))
  uncounted : {trace text : List ℕ} {before : Course} → Turns chip sums trace text before → has_more before.going ≡ true → 2 ^ 64 ≤ before.number + 1
      → Turns chip sums trace text (failed_after before)

-- the course that a run comes to: by some turns, until there is no more to read. Which bytes the system reads and writes no contract says
pub record Came (chip : Chip) (sums : Bool) (r : Course) : Type 0 where
  pub trace : List ℕ
  pub text : List ℕ
  pub turns : Turns chip sums trace text r
  pub ended : has_more r.going ≡ false

-- the course with the summary handed to be written, or not written
abbrev pub with_summary : Handed → Course → Course
with_summary handed c =
    record { number = c.number; going = cond handed.failed Failed c.going; read = c.read; handed = handed; file = c.file; summary = c.summary }

-- the end of a course: it stays where it has failed or is not summed; else its summary is handed to be written
pub data Closed (sums : Bool) (before : Course) : Course → Type 0 where
  failed : has_failed before.going ≡ true → Closed sums before before
  plain : has_failed before.going ≡ false → sums ≡ false → Closed sums before before
  summed : (handed : Handed) → has_failed before.going ≡ false → sums ≡ true → handed.all ≡ counted before.handed.all (length (summary_text before.summary))
      → Closed sums before (with_summary handed before)

-- the course that the program comes to
pub record Finished (chip : Chip) (sums : Bool) (r : Course) : Type 0 where
  pub before : Course
  pub came : Came chip sums before
  pub closed : Closed sums before r

-- what it handed to be written, in all
unfoldable pub whole_text : {chip : Chip} {sums : Bool} {r : Course} → Finished chip sums r → List ℕ
whole_text {sums = sums} e = e.came.text ++ cond (has_failed e.before.going) [] (closing sums e.before.summary)
