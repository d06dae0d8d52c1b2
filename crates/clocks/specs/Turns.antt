-- 02, 12/13: the program `clocks`, in turns: what a turn leaves, and the course of turns.
-- Assumes nothing.
use Rattle.std.specs.Prelude.{ℕ, ◌+◌, ◌%◌, ◌^◌, ◌≤◌, Bool, true, false, cond, List, [], ◌++◌, ◌≡◌, eqb, length, drop}
use Rattle.shell.specs.Parts.{counted}
use Rattle.shell.specs.declared.reading.Filled.{Filled}
use Rattle.shell.specs.declared.telling.Handed.{Handed}
use Rattle.clock_text.specs.declared.tally.Tally.{Tally}
use Rattle.clock_text.specs.Report.{clock_lines}
use Rattle.clock_text.specs.Sets.{no_tally, set_clocks, tallied}
use Rattle.clocks.specs.declared.course.Course.{Course}
use Rattle.clocks.specs.declared.course.Going.{Going}
use Rattle.clocks.specs.declared.course.Going.TheVariants.{More, Ended, Failed}
use Rattle.clocks.specs.declared.course.Turn.{Turn}

-- there is more to read; something failed
unfoldable pub has_more : Going → Bool
has_more More = true
has_more Ended = false
has_more Failed = false

unfoldable pub has_failed : Going → Bool
has_failed More = false
has_failed Ended = false
has_failed Failed = true

-- a part that is no whole buffer is the last
unfoldable pub going_behind : ℕ → Going
going_behind size = cond (eqb size 6144) More Ended

-- what fails ends the course and leaves the rest of it
unfoldable pub failed_after : Course → Course
failed_after before = record { tally = before.tally; going = Failed; read = before.read; handed = before.handed }

-- where there is more to read and no turn is left, the course fails
unfoldable pub over_after : Course → Course
over_after before = cond (has_more before.going) (failed_after before) before

-- the course with what was read
abbrev pub with_read : Filled → Course → Course
with_read read c = record { tally = c.tally; going = c.going; read = read; handed = c.handed }

-- the lines that a turn makes of the part that was read
unfoldable pub turn_lines : List ℕ → List ℕ
turn_lines part = clock_lines (set_clocks part)

-- the course after it, with what was read and what was handed to be written
unfoldable pub course_after : Filled → Handed → Course → List ℕ → Course
course_after read handed before part =
    record { tally = tallied before.tally (set_clocks part); going = going_behind (length part); read = read; handed = handed }

-- one turn, a function of the course before, the part that was read and the buffer: where its lines end, the course after it, and every byte
-- of the buffer. It neither reads nor writes
pub record Turned (before : Course) (part lines₀ lines : List ℕ) (r : Turn) : Type 0 where
  pub end : r.end ≡ length (turn_lines part)
  pub course : r.course ≡ course_after before.read before.handed before part
  pub printed : lines ≡ turn_lines part ++ drop r.end lines₀

unfoldable pub beginning : Course
beginning =
    record {
      tally = no_tally;
      going = More;
      read = record { count = 0; failed = false; all = 0 };
      handed = record { all = 0; failed = false };
    }

-- the part of a turn was read, from a course with more to read, or reading failed behind it: what came back counts it
pub record Brought (failed : Bool) (before : Course) (part : List ℕ) (read : Filled) : Type 0 where
  pub goes : has_more before.going ≡ true
  pub count : read.count ≡ length part
  pub within : length part ≤ 6144
  pub all : read.all ≡ counted before.read.all (length part)
  pub so : read.failed ≡ failed

-- its lines were handed to be written, or writing them failed: what came back counts them
pub record HandedOn (failed : Bool) (before : Course) (part : List ℕ) (handed : Handed) : Type 0 where
  pub all : handed.all ≡ counted before.handed.all (length (turn_lines part))
  pub so : handed.failed ≡ failed

-- how many sets were counted
abbrev pub sets_of : Tally → ℕ
sets_of t = t.rates + t.nones + t.refused

-- a course that turns led to, each from the one before, with the input that they read and the text that they handed to be written. What
-- came back of reading and of writing stands in it. A read or a write that fails is its last, and so is a turn behind which 64 bits have
-- no number for a buffer of sets more
pub data Turns : List ℕ → List ℕ → Course → Type 0 where
  none : Turns [] [] beginning
  then : {input text : List ℕ} {before : Course} (part : List ℕ) (read : Filled) (handed : Handed) → Turns input text before
      → Brought false before part read → HandedOn false before part handed
      → Turns (input ++ part) (text ++ turn_lines part) (course_after read handed before part)
  unread : {input text : List ℕ} {before : Course} (part : List ℕ) (read : Filled) → Turns input text before → Brought true before part read
      → Turns (input ++ part) text (failed_after (with_read read before))
  unwritten : {input text : List ℕ} {before : Course} (part : List ℕ) (read : Filled) (handed : Handed) → Turns input text before
      → Brought false before part read → HandedOn true before part handed
      → Turns (input ++ part) (text ++ turn_lines part) (failed_after (course_after read handed before part))
  uncounted : {input text : List ℕ} {before : Course} → Turns input text before → has_more before.going ≡ true → 2 ^ 64 ≤ sets_of before.tally + 2048
      → Turns input text (failed_after before)

-- the course that a run comes to: by some turns, until there is no more to read. Which bytes the system reads and writes no contract says
pub record Came (r : Course) : Type 0 where
  pub input : List ℕ
  pub text : List ℕ
  pub turns : Turns input text r
  pub ended : has_more r.going ≡ false

-- the course that a whole input leads to if nothing fails
unfoldable pub course_of : List ℕ → Course
course_of input =
    record {
      tally = tallied no_tally (set_clocks input);
      going = Ended;
      read = record { count = length input % 6144; failed = false; all = length input % 2 ^ 64 };
      handed = record { all = length (clock_lines (set_clocks input)) % 2 ^ 64; failed = false };
    }
