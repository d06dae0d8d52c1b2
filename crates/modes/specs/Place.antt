-- 02, 4/13: '18 bad text, at the first byte no good line has there, or its length if it ends too soon'. Over any form of lines: a form says of a text
-- and a mode that the text is a good line and says this mode.
-- Assumes nothing.
use Rattle.std.specs.Prelude.{ℕ, suc, ◌≤◌, ◌<◌, List, ◌++◌, ◌≡◌, length, take}
use Rattle.modes.specs.declared.mode.Mode.{Mode}

-- some good line begins with these bytes
pub record Begins (form : List ℕ → Mode → Type 0) (bytes : List ℕ) : Type 0 where
  pub rest : List ℕ
  pub mode : Mode
  pub good : form (bytes ++ rest) mode

-- a line is no good line, and this is its bad place: some good line begins with the bytes before it, and none with these and the byte at it; it is the
-- line's length where the line ends too soon
pub record BadAt (form : List ℕ → Mode → Type 0) (line : List ℕ) (place : ℕ) : Type 0 where
  pub within : place ≤ length line
  pub begun : Begins form (take place line)
  pub stopped : place < length line → Begins form (take (suc place) line) → ⊥
  pub refused : (mode : Mode) → form line mode → ⊥

-- a line is good, and says this mode and no other
pub record Says (form : List ℕ → Mode → Type 0) (line : List ℕ) (mode : Mode) : Type 0 where
  pub good : form line mode
  pub alone : (other : Mode) → form line other → other ≡ mode
