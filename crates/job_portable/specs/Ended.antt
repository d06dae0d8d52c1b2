-- The end of the command `portable`: the line of the bytes, or the bytes with the numbers of a list in them.
-- Assumes nothing.
use Rattle.std.specs.Prelude.{ℕ, cond, List, [], ◌++◌, ◌≡◌, Option, Some, None, Result, Ok, Err, length, drop}
use Rattle.file.specs.declared.answer.Answer.{Answer}
use Rattle.file.specs.declared.answer.Answer.TheVariants.{ShortBuffer}
use Rattle.file.specs.Answers.{refused}
use Rattle.portable.specs.declared.Timing.{Timing}
use Rattle.portable.specs.Timing.{bytes_after, read_timing, timing_answer, timing_of}
use Rattle.portable_text.specs.declared.writing.NotWritten.{NotWritten}
use Rattle.portable_text.specs.declared.writing.NotWritten.TheVariants.{NoList, Refused}
use Rattle.portable_text.specs.Line.{line_of}
use Rattle.portable_text.specs.Numbers.{listed_in}
use Rattle.text.specs.declared.placed.Placed.{Placed}
use Rattle.text.specs.Lent.{fits, room_answer}

-- the reader's answer, and where its line ends; with 12 there is a line too
abbrev pub PortableEnded : Type 0
PortableEnded = Placed

-- the line of the bytes is asked for: the reader's answer, with the line from the buffer's start on; or 11 where it has no room, and then nothing is put
pub record LineEnded (bytes out₀ out : List ℕ) (r : PortableEnded) : Type 0 where
  pub answered : r.answer ≡ cond (fits out₀ 0 (line_of bytes)) (read_timing bytes).answer ShortBuffer
  pub ended : r.end ≡ cond (fits out₀ 0 (line_of bytes)) (length (line_of bytes)) 0
  pub stored : out ≡ cond (fits out₀ 0 (line_of bytes)) (line_of bytes ++ drop (length (line_of bytes)) out₀) out₀

-- the writer's answer: 12, 8 or 10, and then 11 where the bytes have no room
unfoldable pub with_answer : List ℕ → Timing → List ℕ → Answer
with_answer bytes t out₀ =
    cond (refused (timing_answer bytes t)) (timing_answer bytes t) (room_answer out₀ 0 (bytes_after bytes t))

-- what comes back of the numbers of a list: where the bytes with them end, or why nothing is put
unfoldable pub numbers_result : List ℕ → Option Timing → List ℕ → Result ℕ NotWritten
numbers_result bytes None out₀ = Err (NoList (timing_answer bytes (timing_of [])))
numbers_result bytes (Some t) out₀ =
    cond (refused (with_answer bytes t out₀)) (Err (Refused (with_answer bytes t out₀))) (Ok (length (bytes_after bytes t)))

-- and the buffer: the bytes from its start on, or nothing
unfoldable pub numbers_stored : List ℕ → Option Timing → List ℕ → List ℕ
numbers_stored bytes None out₀ = out₀
numbers_stored bytes (Some t) out₀ =
    cond (refused (with_answer bytes t out₀)) out₀ (bytes_after bytes t ++ drop (length (bytes_after bytes t)) out₀)

-- they are asked for
pub record NumbersEnded (bytes list out₀ out : List ℕ) (r : Result ℕ NotWritten) : Type 0 where
  pub answered : r ≡ numbers_result bytes (listed_in list) out₀
  pub stored : out ≡ numbers_stored bytes (listed_in list) out₀
