-- 'Explain --summary': the lines at the end. One for each register that was reached, one for each code that came, one for each timing number.
-- Assumes nothing.
use Rattle.std.specs.Prelude.{ℕ, ◌-◌, cond, not, List, [], ◌∷◌, eqb, ltb, get_or}
use Rattle.file.specs.declared.answer.Answer.{Answer}
use Rattle.explaining.specs.declared.token.Token.{Token}
use Rattle.explaining.specs.Explained.{bit_digits, changed}
use Rattle.explaining.specs.Lines.{Line, blank, columned, decimal_token, hex_token, lines_of, most_answer, name_token, phrase, say, told}
use Rattle.explaining.specs.Moves.{number_label}
use Rattle.explaining.specs.Words.{code_words}
use Rattle.summing.specs.declared.summary.Summary.{Summary}

-- the columns: what was counted or read, what is told of it, and what moved
abbrev pub count_column : ℕ
count_column = 15

abbrev pub told_column : ℕ
told_column = 32

abbrev pub moved_column : ℕ
moved_column = 45

-- '1 write', '3 writes'
unfoldable pub counted : ℕ → Token → Token → List Token
counted n one many = phrase (decimal_token n ∷ cond (eqb n 1) one many ∷ [])

-- a name, and how often
unfoldable pub count_line : List Token → List Token → Line
count_line name often = columned (told (columned (told blank name) count_column) often) told_column

-- 'CR7            3 writes         reach FFh    moved 30h': bits in as many digits as those reached have
unfoldable pub register_line : ℕ → ℕ → ℕ → ℕ → Line
register_line number writes reach moved =
    cond (eqb writes 0) blank
    (told
    (columned
    (told (count_line (phrase (name_token number ∷ [])) (counted writes (say " write") (say " writes")))
    (phrase (say "reach " ∷ hex_token (bit_digits reach) reach ∷ [])))
    moved_column)
    (phrase (say "moved " ∷ hex_token (bit_digits reach) moved ∷ [])))

-- 'code 0         14 times         done'
unfoldable pub code_line : ℕ → ℕ → Line
code_line code times =
    cond (eqb times 0) blank
    (told (count_line (phrase (say "code " ∷ decimal_token code ∷ [])) (counted times (say " time") (say " times"))) (code_words code))

-- 'V total        525 -> 13', or 'V total        525, not moved'
unfoldable pub timing_line : ℕ → ℕ → ℕ → Line
timing_line k first last =
    changed (columned (told blank (number_label k)) count_column) (phrase (decimal_token first ∷ [])) (phrase (decimal_token last ∷ [])) (not (eqb first last))

-- 108 registers, 21 codes, 15 numbers
abbrev pub codes_from : ℕ
codes_from = 108

abbrev pub numbers_from : ℕ
numbers_from = 129

abbrev pub summary_count : ℕ
summary_count = 144

unfoldable pub summary_line : Summary → ℕ → Line
summary_line s k =
    cond (ltb k codes_from) (register_line k (get_or s.writes k 0) (get_or s.reaches k 0) (get_or s.moved k 0))
    (cond (ltb k numbers_from) (code_line (k - codes_from) (get_or s.codes (k - codes_from) 0))
    (timing_line (k - numbers_from) (get_or s.first (k - numbers_from) 0) (get_or s.last (k - numbers_from) 0)))

unfoldable pub summary_text : Summary → List ℕ
summary_text s = lines_of (summary_line s) 0 summary_count

-- the most bytes that they have: 144 lines of 160
abbrev pub summary_most : ℕ
summary_most = 23040

-- 01, the table of codes: 11 where there are fewer bytes from a place of the buffer on
unfoldable pub summary_answer : List ℕ → ℕ → Answer
unfolding most_answer
summary_answer buffer at = most_answer summary_most buffer at
