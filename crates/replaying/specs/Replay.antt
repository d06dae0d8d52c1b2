-- 01, 'The replay program': what it prints of a trace, and the same over lent bytes, of a part of a trace and of the whole.
-- Assumes nothing.
use Rattle.std.specs.Prelude.{ℕ, suc, ◌+◌, ◌*◌, Bool, cond, ◌&&◌, List, [], ◌∷◌, ◌++◌, ◌≡◌, Result, Ok, Err, leb, length, drop}
use Rattle.file.specs.declared.answer.Answer.{Answer}
use Rattle.file.specs.declared.answer.Answer.TheVariants.{Done, NotSound, OutOfRange, ShortBuffer}
use Rattle.file.specs.declared.chip.Chip.{Chip}
use Rattle.file.specs.declared.registers.File.{File}
use Rattle.file.specs.Answers.{code_of, refused, value_of}
use Rattle.file.specs.File.{power_on}
use Rattle.file.specs.Sound.{sound}
use Rattle.access.specs.declared.record.Item.{Item}
use Rattle.access.specs.Access.{access_item}
use Rattle.timing.specs.Timing.{timing_in}
use Rattle.trace.specs.Records.{items, item_count}
use Rattle.trace.specs.Run.{file_after, filled, replies, run}
use Rattle.replaying.specs.declared.Part.{Part}
use Rattle.text.specs.Lent.{behind_by, placed_by}
use Rattle.text.specs.Text.{all_lines, line_of, lines_answer, numbers_fit, timing_line}

-- the line of an answer
unfoldable pub record_line : ℕ → Answer → List ℕ
record_line number a = line_of number (code_of a) (value_of a)

-- the lines of items, from a number on
unfoldable pub record_lines : ℕ → File → List Item → List ℕ
record_lines number f [] = []
record_lines number f (i ∷ is) = record_line number (access_item f i).answer ++ record_lines (suc number) (access_item f i).file is

-- what is printed of a trace that follows so many records, from the file that they left
unfoldable pub replayed_from : ℕ → File → List ℕ → List ℕ
replayed_from number f trace =
    record_lines number f (items (item_count trace) trace) ++ timing_line (timing_in (file_after f (items (item_count trace) trace)))

-- 'It reads a trace on standard input from power-on.' 02, 6/13: of the chip that is chosen
unfoldable pub replayed : Chip → List ℕ → List ℕ
replayed chip trace = replayed_from 0 (power_on chip) trace

-- the file after a part of a trace
unfoldable pub after_part : File → List ℕ → File
after_part f part = file_after f (items (item_count part) part)

-- the replies to its records
unfoldable pub part_replies : File → List ℕ → List ℕ
part_replies f part = replies f (items (item_count part) part)

-- the lines of its records, numbered from a number on
unfoldable pub part_lines : ℕ → File → List ℕ → List ℕ
part_lines number f part = record_lines number f (items (item_count part) part)

-- room for so many replies of 8 bytes, and for as many lines of 30, the most that a line has, with so many bytes behind them.
-- How long the lines are is known only behind the run, whose replies are then in the buffer
unfoldable pub records_fit : ℕ → ℕ → ℕ → ℕ → Bool
records_fit count last replies lines = leb (8 * count) replies && leb (30 * count + last) lines

-- 01's table of codes: 12, then 11, then 10, a record's number out of range
unfoldable pub part_answer : File → ℕ → List ℕ → List ℕ → List ℕ → Answer
part_answer f number part replies lines =
    cond (sound f)
    (cond (records_fit (item_count part) 0 (length replies) (length lines))
    (cond (numbers_fit number (item_count part)) (Done 0) OutOfRange)
    ShortBuffer)
    NotSound

-- the lines of a part, if they are asked for
unfoldable pub asked : Bool → ℕ → File → List ℕ → List ℕ
asked prints number f part = cond prints (part_lines number f part) []

-- a part that was run from a file: what comes back, and what both buffers hold
pub record Parted (f : File) (number : ℕ) (prints : Bool) (part replies₀ replies lines₀ lines : List ℕ) (r : Part) : Type 0 where
  pub file : r.file ≡ after_part f part
  pub count : r.count ≡ item_count part
  pub end : r.end ≡ length (asked prints number f part)
  pub replied : replies ≡ part_replies f part ++ drop (8 * item_count part) replies₀
  pub printed : lines ≡ asked prints number f part ++ drop r.end lines₀

-- a run from any file, sound or not, into whatever room the buffers have: its file, its count and its replies, and, if they are asked for and have room,
-- the lines of its replies
pub record PartRan (f : File) (number : ℕ) (prints : Bool) (part replies₀ replies lines₀ lines : List ℕ) (r : Part) : Type 0 where
  pub file : r.file ≡ (run f part replies₀).file
  pub count : r.count ≡ (run f part replies₀).count
  pub replied : replies ≡ (run f part replies₀).buffer
  pub end : r.end ≡ cond prints (behind_by (lines_answer lines₀ 0 number (filled (run f part replies₀))) 0 (all_lines number (filled (run f part replies₀)))) 0
  pub printed :
      lines ≡ cond prints (placed_by (lines_answer lines₀ 0 number (filled (run f part replies₀))) lines₀ 0 (all_lines number (filled (run f part replies₀)))) lines₀

-- what comes back of a part whose lines are asked for: a refusal, or the file after it, the count of its records and where its lines end
unfoldable pub part_result : Answer → ℕ → File → List ℕ → Result Part Answer
part_result answer number f part =
    cond (refused answer) (Err answer)
    (Ok (record { file = after_part f part; count = item_count part; end = length (part_lines number f part) }))

-- what a part leaves, from a file and a number on: what comes back, and what both buffers hold
pub record PartReplayed (f : File) (number : ℕ) (part replies₀ replies lines₀ lines : List ℕ) (r : Result Part Answer) : Type 0 where
  pub told : r ≡ part_result (part_answer f number part replies₀ lines₀) number f part
  pub replied : replies ≡ placed_by (part_answer f number part replies₀ lines₀) replies₀ 0 (part_replies f part)
  pub lined : lines ≡ placed_by (part_answer f number part replies₀ lines₀) lines₀ 0 (part_lines number f part)

-- the most bytes that a file's timing line has: the word, fifteen numbers of ten digits, each behind a space, a newline
unfoldable pub timing_most : ℕ
timing_most = 172

-- the whole: 11 where a buffer is short
unfoldable pub replay_answer : List ℕ → List ℕ → List ℕ → Answer
replay_answer trace replies lines =
    cond (records_fit (item_count trace) timing_most (length replies) (length lines)) (Done 0) ShortBuffer
