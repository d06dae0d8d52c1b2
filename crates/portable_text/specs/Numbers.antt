-- The program of 02, 13/13 (DECISIONS, points 120 to 123 and 125): the writer's numbers as a text, fourteen of them.
-- Assumes nothing.
use Rattle.std.specs.Prelude.{ℕ, min, Bool, cond, ◌&&◌, List, [], ◌∷◌, ◌++◌, map, ◌≡◌, Option, Some, None, Result, Ok, Err, eqb, ltb, length}
use Rattle.file.specs.Answers.{refused}
use Rattle.modes.specs.Form.{digit, every, value_of}
use Rattle.portable.specs.declared.Timing.{Timing}
use Rattle.portable.specs.Timing.{bytes_after, timing_answer, timing_of}
use Rattle.portable_text.specs.declared.writing.NotWritten.{NotWritten}
use Rattle.portable_text.specs.declared.writing.NotWritten.TheVariants.{NoList, Refused}

-- the parts of a text between its spaces, behind the bytes that the first part has already
unfoldable pub parts_from : List ℕ → List ℕ → List (List ℕ)
parts_from part [] = part ∷ []
parts_from part (b ∷ text) = cond (eqb b 0x20) (part ∷ parts_from [] text) (parts_from (part ++ b ∷ []) text)

unfoldable pub parts : List ℕ → List (List ℕ)
parts text = parts_from [] text

-- a decimal number: digits, one at least
unfoldable pub number : List ℕ → Bool
number part = ltb 0 (length part) && every digit part

-- fourteen parts, each a number
unfoldable pub is_list : List (List ℕ) → Bool
is_list ps = eqb (length ps) 14 && every number ps

-- a number is held in 16 bits; what is above them is held as 65,535, which lies in no range
unfoldable pub held_of : List ℕ → ℕ
held_of part = min (value_of part) 65535

-- what is no list has no numbers
unfoldable pub listed_by : List (List ℕ) → Option Timing
listed_by ps = cond (is_list ps) (Some (timing_of (map held_of ps))) None

unfoldable pub listed_in : List ℕ → Option Timing
listed_in text = listed_by (parts text)

-- what comes back of numbers that were to be written: the writer's answer. What is no list has none, which are out of range
unfoldable pub list_result : List ℕ → Option Timing → Result (Unit {0}) NotWritten
list_result before None = Err (NoList (timing_answer before (timing_of [])))
list_result before (Some t) = cond (refused (timing_answer before t)) (Err (Refused (timing_answer before t))) (Ok tt)

-- and what the bytes hold
unfoldable pub bytes_listed : List ℕ → Option Timing → List ℕ
bytes_listed before None = before
bytes_listed before (Some t) = bytes_after before t

-- a text was to be written into bytes
pub record ListWritten (before text after : List ℕ) (r : Result (Unit {0}) NotWritten) : Type 0 where
  pub answered : r ≡ list_result before (listed_in text)
  pub bytes : after ≡ bytes_listed before (listed_in text)
