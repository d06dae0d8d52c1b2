-- Which of the listed codes a line and the lines of replies answer. Assumes nothing.
use Prim.Native.Nat.{ℕ, ◌/◌}
use mathlib.Core.List.{List, [], ◌∷◌}
use lib.Dec.{T}
use lib.ListN.{length}
use Rattle.bits.proofs.Test.{chosen}
use Rattle.file.specs.declared.answer.Answer.TheVariants.{Done, OutOfRange, ShortBuffer}
use Rattle.file.specs.Answers.{code_of, one_of}
use Rattle.text.specs.Lent.{fits, room_answer}
use Rattle.text.specs.Text.{all_lines, lines_answer, numbers_fit}

pub line-codes : (buffer : List ℕ) (at : ℕ) (text : List ℕ) → T (one_of (0 ∷ 11 ∷ []) (room_answer buffer at text))
unfolding room_answer one_of code_of
line-codes buffer at text = chosen (one_of (0 ∷ 11 ∷ [])) (fits buffer at text) (Done 0) ShortBuffer tt tt

pub lines_codes : (buffer : List ℕ) (at number : ℕ) (replies : List ℕ) → T (one_of (0 ∷ 10 ∷ 11 ∷ []) (lines_answer buffer at number replies))
unfolding lines_answer room_answer one_of code_of
lines_codes buffer at number replies =
    chosen (one_of (0 ∷ 10 ∷ 11 ∷ [])) (numbers_fit number (length replies / 8)) (room_answer buffer at (all_lines number replies)) OutOfRange
    (chosen (one_of (0 ∷ 10 ∷ 11 ∷ [])) (fits buffer at (all_lines number replies)) (Done 0) ShortBuffer tt tt) tt
