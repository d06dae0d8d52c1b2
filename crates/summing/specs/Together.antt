-- 'Explain --summary': the records in which a number moved together with another one. Such a record has its first line, as 'explain' has it, and below it
-- the line of each number that moved.
-- Assumes nothing.
use Rattle.std.specs.Prelude.{ℕ, ◌+◌, ◌-◌, Bool, cond, not, List, [], ◌∷◌, eqb, ltb, get_or}
use Rattle.file.specs.declared.answer.Answer.{Answer}
use Rattle.file.specs.declared.registers.File.{File}
use Rattle.access.specs.declared.record.Item.{Item}
use Rattle.explaining.specs.declared.explain.Case.{Case}
use Rattle.explaining.specs.Explained.{case_of, first_line, number_line}
use Rattle.explaining.specs.Lines.{Line, blank, lines_of, most_answer}

-- a number moved: it reads otherwise after than before
unfoldable pub moved_at : List ℕ → List ℕ → ℕ → Bool
moved_at old new k = not (eqb (get_or old k 0) (get_or new k 0))

-- how many of so many numbers did, from a place on
unfoldable pub differing : ℕ → ℕ → ℕ
differing old new = cond (eqb old new) 0 1

unfoldable pub moved_count : List ℕ → List ℕ → ℕ
moved_count [] new = 0
moved_count (x ∷ old) [] = 0
moved_count (x ∷ old) (y ∷ new) = differing x y + moved_count old new

-- two or more
unfoldable pub together : Case → Bool
together c = ltb 1 (moved_count c.old c.new)

unfoldable pub moved_line : Case → ℕ → Line
moved_line c k = cond (moved_at c.old c.new k) (number_line c k) blank

unfoldable pub together_line : Case → ℕ → Line
together_line c k = cond (eqb k 0) (first_line c) (moved_line c (k - 1))

-- the first line and fifteen
abbrev pub together_count : ℕ
together_count = 16

-- the most bytes that they have: 16 lines of 160
abbrev pub together_most : ℕ
together_most = 2560

unfoldable pub together_text : Case → List ℕ
together_text c = cond (together c) (lines_of (together_line c) 0 together_count) []

-- of a record: its number, the file before it, and what stands in the trace
unfoldable pub moved_together : ℕ → File → Item → List ℕ
moved_together number f item = together_text (case_of number f item)

-- 01, the table of codes: 11 where there are fewer bytes from a place of the buffer on, whatever moved
unfoldable pub together_answer : List ℕ → ℕ → Answer
unfolding most_answer
together_answer buffer at = most_answer together_most buffer at
