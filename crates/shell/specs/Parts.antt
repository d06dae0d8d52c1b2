-- 01, 'The replay program': what a part of a trace leaves and prints, a turn, and the course of turns.
-- Assumes nothing.
use Rattle.std.specs.Prelude.{◌≡◌, ℕ, ◌+◌, ◌*◌, ◌%◌, ◌^◌, ◌≤◌, Bool, true, false, ◌||◌, List, [], ◌++◌, length, drop, ◌==◌}
use Rattle.file.specs.declared.chip.Chip.{Chip}
use Rattle.file.specs.File.{power_on}
use Rattle.trace.specs.Records.{item_count}
use Rattle.replaying.specs.Replay.{after_part, asked, part_replies}
use Rattle.shell.specs.declared.course.Course.{Course}
use Rattle.shell.specs.declared.course.Turn.{Turn}
use Rattle.shell.specs.declared.reading.Filled.{Filled}
use Rattle.shell.specs.declared.telling.Handed.{Handed}

-- how many bytes were read, or handed to be written, in all: so many behind those before, as far as 64 bits count
abbrev pub counted : ℕ → ℕ → ℕ
counted before count = (before + count) % 2 ^ 64

-- a course has failed if its last read or its last write has
unfoldable pub has_failed : Course → Bool
has_failed c = c.read.failed || c.handed.failed

-- what fails ends the course and leaves the rest of it
unfoldable pub failed_after : Course → Course
failed_after before =
    record { file = before.file; number = before.number; more = false; read = before.read; handed = before.handed }

-- the course with what was read
abbrev pub with_read : Filled → Course → Course
with_read read c = record { file = c.file; number = c.number; more = c.more; read = read; handed = c.handed }

-- the lines that a turn makes of the part that was read
unfoldable pub turn_lines : Bool → Course → List ℕ → List ℕ
turn_lines prints before part = asked prints before.number before.file part

-- the course after it, with what was read and what was handed to be written
unfoldable pub course_after : Filled → Handed → Course → List ℕ → Course
course_after read handed before part =
    record {
      file = after_part before.file part;
      number = before.number + item_count part;
      more = (length part == 8192);
      read = read;
      handed = handed;
    }

-- one turn, a function of the course before, the part that was read and both buffers: where its lines end, the course after it, and every
-- byte of the buffers. It neither reads nor writes
pub record Turned (before : Course) (prints : Bool) (part replies₀ replies lines₀ lines : List ℕ) (r : Turn) : Type 0 where
  pub end : r.end ≡ length (turn_lines prints before part)
  pub course : r.course ≡ course_after before.read before.handed before part
  pub replied : replies ≡ part_replies before.file part ++ drop (8 * item_count part) replies₀
  pub printed : lines ≡ turn_lines prints before part ++ drop r.end lines₀

-- 'It reads a trace on standard input from power-on'; 02, 6/13: of a chip
unfoldable pub beginning : Chip → Course
beginning chip =
    record {
      file = power_on chip;
      number = 0;
      more = true;
      read = record { count = 0; failed = false; all = 0 };
      handed = record { all = 0; failed = false };
    }

-- the part of a turn was read, from a course with more to read, or reading failed behind it: what came back counts it
pub record Brought (failed : Bool) (before : Course) (part : List ℕ) (read : Filled) : Type 0 where
  pub goes : before.more ≡ true
  pub count : read.count ≡ length part
  pub within : length part ≤ 8192
  pub all : read.all ≡ counted before.read.all (length part)
  pub so : read.failed ≡ failed

-- its lines were handed to be written, or writing them failed: what came back counts them
pub record HandedOn (failed prints : Bool) (before : Course) (part : List ℕ) (handed : Handed) : Type 0 where
  pub all : handed.all ≡ counted before.handed.all (length (turn_lines prints before part))
  pub so : handed.failed ≡ failed

-- a course that turns led to from power-on, each from the one before, with the trace that they read and the text that they handed to be written. What
-- came back of reading and of writing stands in it. A read or a write that fails is its last
pub data Turns (chip : Chip) (prints : Bool) : List ℕ → List ℕ → Course → Type 0 where
  none : Turns chip prints [] [] (beginning chip)
  then : {trace text : List ℕ} {before : Course} (part : List ℕ) (read : Filled) (handed : Handed) → Turns chip prints trace text before
      → Brought false before part read → HandedOn false prints before part handed
      → Turns chip prints (trace ++ part) (text ++ turn_lines prints before part) (course_after read handed before part)
  unread : {trace text : List ℕ} {before : Course} (part : List ℕ) (read : Filled) → Turns chip prints trace text before
      → Brought true before part read → Turns chip prints (trace ++ part) text (failed_after (with_read read before))
  unwritten : {trace text : List ℕ} {before : Course} (part : List ℕ) (read : Filled) (handed : Handed) → Turns chip prints trace text before
      → Brought false before part read → HandedOn true prints before part handed
      → Turns chip prints (trace ++ part) (text ++ turn_lines prints before part) (failed_after (course_after read handed before part))

-- the course that a whole trace leads to if nothing fails
unfoldable pub course_of : Chip → Bool → List ℕ → Course
course_of chip prints trace =
    record {
      file = after_part (power_on chip) trace;
      number = item_count trace;
      more = false;
      read = record { count = length trace % 8192; failed = false; all = length trace % 2 ^ 64 };
      handed = record { all = length (asked prints 0 (power_on chip) trace) % 2 ^ 64; failed = false };
    }

-- the course that a run comes to: by some turns, until there is no more to read. Which bytes the system reads and writes no contract says
pub record Came (chip : Chip) (prints : Bool) (r : Course) : Type 0 where
  pub trace : List ℕ
  pub text : List ℕ
  pub turns : Turns chip prints trace text r
  pub ended : r.more ≡ false

-- a run that came to its end without a failure, on some chip
pub record Finished (prints : Bool) (r : Course) : Type 0 where
  pub chip : Chip
  pub came : Came chip prints r
  pub unfailed : has_failed r ≡ false
