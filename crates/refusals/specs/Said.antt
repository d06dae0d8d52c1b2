-- What is said of a trace's refused records: 'sedgecoil: 132 of 332 records refused: code 6 132 times'.
-- Assumes nothing.
use Rattle.std.specs.Prelude.{ℕ, suc, ◌+◌, min, Bool, true, cond, ◌&&◌, List, [], ◌∷◌, ◌++◌, eqb, drop}
use Rattle.file.specs.Readers.{ascii}
use Rattle.text.specs.declared.placed.Placed.{Placed}
use Rattle.text.specs.Lent.{Lined, room_answer}
use Rattle.text.specs.Text.{decimal, newline, space}
use Rattle.refusals.specs.Counted.{most_count}

-- the sum of two counts; one beyond 64 bits is the largest count
unfoldable pub summed_up : ℕ → ℕ → ℕ
summed_up a b = min (a + b) most_count

unfoldable pub total : List ℕ → ℕ
total [] = 0
total (n ∷ ns) = n + total ns

-- how many records were refused: those with a code from 2 up
unfoldable pub refused_sum : List ℕ → ℕ
refused_sum counts = min (total (drop 2 counts)) most_count

-- ' 132 times', ' 1 time'
unfoldable pub times_text : ℕ → List ℕ
times_text times = (space ++ decimal times) ++ cond (eqb times 1) (ascii " time") (ascii " times")

-- the first code stands after a colon, each other one after a comma
unfoldable pub start_text : Bool → ℕ → List ℕ
start_text first code = cond first (ascii ": code ") (ascii ", code ") ++ decimal code

-- a code and how often it came; nothing of one that never came
unfoldable pub code_told : Bool → ℕ → ℕ → List ℕ
code_told first code times = cond (eqb times 0) [] (start_text first code ++ times_text times)

-- the codes from one on
unfoldable pub codes_text : Bool → ℕ → List ℕ → List ℕ
codes_text first code [] = []
codes_text first code (times ∷ counts) = code_told first code times ++ codes_text (first && eqb times 0) (suc code) counts

-- how many of how many
unfoldable pub head_text : ℕ → ℕ → List ℕ
head_text sum number = (ascii "sedgecoil: " ++ decimal sum) ++ (ascii " of " ++ decimal number) ++ ascii " records refused"

-- the line, with its newline; nothing where none was refused
unfoldable pub refused_text : ℕ → List ℕ → List ℕ
refused_text number counts =
    cond (eqb (refused_sum counts) 0) [] (head_text (refused_sum counts) number ++ codes_text true 2 (drop 2 counts) ++ newline)

-- the most bytes that it has: 74 beside the codes, and 36 for each
unfoldable pub refused_most : ℕ
refused_most = 830

-- the line was asked for from a place of a buffer on: what comes back, and what the buffer holds
abbrev pub RefusedLined : ℕ → ℕ → List ℕ → List ℕ → List ℕ → Placed → Type 0
RefusedLined at number counts before after r =
    Lined (room_answer before at (refused_text number counts)) at (refused_text number counts) before after r
