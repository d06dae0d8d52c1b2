-- Text in a lent buffer: what is answered, what each byte holds afterwards, and the place behind the text.
-- Assumes nothing.
use Rattle.std.specs.Prelude.{ℕ, ◌+◌, Bool, cond, List, ◌++◌, ◌≡◌, leb, length, take, drop}
use Rattle.std.proofs.lemmas.List.Edits.{sets}
use Rattle.file.specs.declared.answer.Answer.{Answer}
use Rattle.file.specs.declared.answer.Answer.TheVariants.{Done, ShortBuffer}
use Rattle.file.specs.Answers.{refused}
use Rattle.text.specs.declared.placed.Placed.{Placed}

-- there is room for the text from a place of the buffer on
unfoldable pub fits : List ℕ → ℕ → List ℕ → Bool
fits buffer at text = leb (at + length text) (length buffer)

-- 01, 'Accesses and replies', the table of codes: 11, a short buffer, where there is none
unfoldable pub room_answer : List ℕ → ℕ → List ℕ → Answer
room_answer buffer at text = cond (fits buffer at text) (Done 0) ShortBuffer

-- the buffer with the text from a place on; 'Codes from 2 up leave .. lent bytes as found'
unfoldable pub placed_by : Answer → List ℕ → ℕ → List ℕ → List ℕ
placed_by answer buffer at text = cond (refused answer) buffer (take at buffer ++ text ++ drop (at + length text) buffer)

-- the place behind the text; where it is refused, the same place
unfoldable pub behind_by : Answer → ℕ → List ℕ → ℕ
behind_by answer at text = cond (refused answer) at (at + length text)

-- a text was asked for from a place on: what comes back, and what the buffer holds
pub record Lined (answer : Answer) (at : ℕ) (text before after : List ℕ) (r : Placed) : Type 0 where
  pub answered : r.answer ≡ answer
  pub ended : r.end ≡ behind_by answer at text
  pub bytes : after ≡ placed_by answer before at text

-- the text was stored, byte by byte, up to a place
pub record Wrote (before : List ℕ) (at : ℕ) (text after : List ℕ) (end : ℕ) : Type 0 where
  pub bytes : after ≡ sets before at text
  pub place : end ≡ at + length text
