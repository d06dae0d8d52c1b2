-- 02, 4/13: 'Read one line': an input's lines, each ended by a newline, out of parts that end anywhere.
-- Assumes nothing.
use Rattle.std.specs.Prelude.{ℕ, ◌+◌, Bool, false, cond, ◌||◌, List, [], ◌∷◌, ◌≡◌, eqb, length}
use Rattle.mode_lines.specs.declared.split.Taken.{Taken}
use Rattle.mode_lines.specs.Kept.{Kept}

-- the bytes before the first newline; all of them where there is none
unfoldable pub up_to : List ℕ → List ℕ
up_to [] = []
up_to (b ∷ s) = cond (eqb b 0x0A) [] (b ∷ up_to s)

unfoldable pub has_newline : List ℕ → Bool
has_newline [] = false
has_newline (b ∷ s) = eqb b 0x0A || has_newline s

-- a line taken out of a part, behind what is kept of it: what is kept then, whether it is whole, and how many bytes of the part that took, the newline among them
pub record TookLine (part before : List ℕ) (count : ℕ) (after : List ℕ) (r : Taken) : Type 0 where
  pub kept : Kept before count (up_to part) after r.count
  pub ended : r.ended ≡ has_newline part
  pub used : r.used ≡ length (up_to part) + cond (has_newline part) 1 0
