-- 02, 12/13: what the program `clocks` prints, as bytes.
-- Assumes nothing.
use Rattle.std.specs.Prelude.{ℕ, List, [], ◌∷◌, ◌++◌, Option, Some, None, Ok, Err}
use Rattle.file.specs.Answers.{code_of}
use Rattle.file.specs.Readers.{ascii}
use Rattle.text.specs.Text.{decimal, newline, space}
use Rattle.clock.specs.declared.terms.Terms.{Terms}
use Rattle.clock_text.specs.declared.tally.Tally.{Tally}
use Rattle.clock_text.specs.Sets.{SetClock, no_tally, set_clocks, tallied}

-- 'the lowest terms as p/q'
unfoldable pub terms_text : Terms → List ℕ
terms_text t = decimal t.p ++ ascii "/" ++ decimal t.q

-- or "none"
unfoldable pub rate_text : Option Terms → List ℕ
rate_text (Some t) = terms_text t
rate_text None = ascii "none"

-- 'a line for each, the lowest terms as p/q or "none"'; of a refused set 'the program prints the code and goes on'
unfoldable pub clock_text : SetClock → List ℕ
clock_text (Ok rate) = rate_text rate
clock_text (Err answer) = decimal (code_of answer)

unfoldable pub clock_line : SetClock → List ℕ
clock_line c = clock_text c ++ newline

unfoldable pub clock_lines : List SetClock → List ℕ
clock_lines [] = []
clock_lines (c ∷ cs) = clock_line c ++ clock_lines cs

-- 'then the counts of rates, nones and refused sets'
unfoldable pub counts_line : Tally → List ℕ
counts_line t = (ascii "counts " ++ decimal t.rates) ++ (space ++ decimal t.nones) ++ (space ++ decimal t.refused) ++ newline

-- 'the largest and smallest rate .., or "none" if no set has a rate'
unfoldable pub summary : Tally → List ℕ
summary t =
    counts_line t ++ (ascii "largest " ++ rate_text t.largest ++ newline) ++ (ascii "smallest " ++ rate_text t.smallest ++ newline)

-- the whole of it; of an empty input the three lines alone
unfoldable pub report : List ℕ → List ℕ
report input = clock_lines (set_clocks input) ++ summary (tallied no_tally (set_clocks input))
