-- The program of 02, 13/13 (DECISIONS, point 125): the reader's answer as a line, the code and the fourteen numbers.
-- Assumes nothing.
use Rattle.std.specs.Prelude.{ℕ, List, []}
use Rattle.file.specs.Answers.{code_of}
use Rattle.portable.specs.Timing.{numbers_of, read_timing}
use Rattle.text.specs.Text.{decimal, numbers_line}

-- the line of lent bytes, ended by a newline
unfoldable pub line_of : List ℕ → List ℕ
line_of bytes = numbers_line (decimal (code_of (read_timing bytes).answer)) [] (numbers_of (read_timing bytes).timing)

-- the most bytes that it has: two of the code, fourteen numbers of five digits, each behind a space, a newline
unfoldable pub line_most : ℕ
line_most = 87
