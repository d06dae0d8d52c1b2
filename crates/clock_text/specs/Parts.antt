-- 02, 12/13: the report over lent bytes, of a part of the input and of the whole.
-- Assumes nothing.
use Rattle.std.specs.Prelude.{ℕ, ◌+◌, ◌*◌, ◌≤◌, Bool, cond, ◌&&◌, List, ◌≡◌, Result, Ok, Err, leb, length}
use Rattle.file.specs.declared.answer.Answer.{Answer}
use Rattle.file.specs.declared.answer.Answer.TheVariants.{Done, OutOfRange, ShortBuffer}
use Rattle.file.specs.Answers.{refused}
use Rattle.text.specs.Lent.{Wrote, placed_by}
use Rattle.clock_text.specs.declared.parts.SetsPart.{SetsPart}
use Rattle.clock_text.specs.declared.tally.Tally.{Tally}
use Rattle.clock_text.specs.Report.{clock_lines}
use Rattle.clock_text.specs.Sets.{set_clocks, set_count, tallied}

-- room for so many lines of 15 bytes, the most that a set's line has, with so many bytes behind them
unfoldable pub sets_fit : ℕ → ℕ → ℕ → Bool
sets_fit count last lines = leb (15 * count + last) lines

-- each count is of 64 bits, whatever so many sets more add to it
unfoldable pub counts_fit : Tally → ℕ → Bool
counts_fit t count =
    leb (t.rates + count) 18446744073709551615 && leb (t.nones + count) 18446744073709551615 && leb (t.refused + count) 18446744073709551615

-- the same as facts
pub record Countable (t : Tally) (count : ℕ) : Type 0 where
  pub rates : t.rates + count ≤ 18446744073709551615
  pub nones : t.nones + count ≤ 18446744073709551615
  pub refused : t.refused + count ≤ 18446744073709551615

-- 01's table of codes: 11, a short buffer, and then 10, a count out of range (DECISIONS, points 115 and 116)
unfoldable pub part_answer : Tally → List ℕ → List ℕ → Answer
part_answer before part lines =
    cond (sets_fit (set_count part) 0 (length lines)) (cond (counts_fit before (set_count part)) (Done 0) OutOfRange) ShortBuffer

-- a part of the input that is not refused: what comes back, and what the buffer holds, its lines stored byte by byte
pub record LinesPut (before : Tally) (part lines₀ lines : List ℕ) (r : SetsPart) : Type 0 where
  pub tally : r.tally ≡ tallied before (set_clocks part)
  pub wrote : Wrote lines₀ 0 (clock_lines (set_clocks part)) lines r.end

-- what a part of the input leaves
unfoldable pub part_left : Tally → List ℕ → SetsPart
part_left before part = record { tally = tallied before (set_clocks part); end = length (clock_lines (set_clocks part)) }

-- a part of the input behind what was counted: what comes back, and what the buffer holds
pub record PartReported (before : Tally) (part lines₀ lines : List ℕ) (r : Result SetsPart Answer) : Type 0 where
  pub answered : r ≡ cond (refused (part_answer before part lines₀)) (Err (part_answer before part lines₀)) (Ok (part_left before part))
  pub lined : lines ≡ placed_by (part_answer before part lines₀) lines₀ 0 (clock_lines (set_clocks part))

-- the most bytes that the summary has: three numbers of 20 digits, two rates of twice ten, and the words (DECISIONS, point 116)
unfoldable pub summary_most : ℕ
summary_most = 131

-- 11 where there are fewer bytes from a place of the buffer on
unfoldable pub summary_answer : List ℕ → ℕ → Answer
summary_answer lines at = cond (leb (at + summary_most) (length lines)) (Done 0) ShortBuffer

-- the whole: 11 where the buffer is short
unfoldable pub report_answer : List ℕ → List ℕ → Answer
report_answer input lines = cond (sets_fit (set_count input) summary_most (length lines)) (Done 0) ShortBuffer
