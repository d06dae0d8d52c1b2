-- What it means that two files differ inside a reach only.
-- Assumes nothing.
use Rattle.std.specs.Prelude.{ℕ, ◌≡◌, true, false, get_or}
use Rattle.bits.specs.Store.{bit}
use Rattle.file.specs.declared.effect.Reach.{Reach}
use Rattle.file.specs.declared.registers.File.{File}
use Rattle.file.specs.File.{register, black}

-- outside the reach every bit of every register, every entry, the pointer, the marks (02, 1/13), the toggle and the line (02, 10/13) are as before; the
-- chip (02, 6/13) is in no reach
pub record SameOutside (r : Reach) (before after : File) : Type 0 where
  pub registers : (number i : ℕ) → (number ≡ r.register → bit i r.bits ≡ 0) → bit i (register after number) ≡ bit i (register before number)
  pub palette : (n : ℕ) → (r.palette ≡ true → n ≡ r.entry → ⊥) → get_or after.palette n black ≡ get_or before.palette n black
  pub bank : (n : ℕ) → (r.bank ≡ true → n ≡ r.entry → ⊥) → get_or after.bank n black ≡ get_or before.bank n black
  pub pointer : r.pointer ≡ false → after.state.pointer ≡ before.state.pointer
  pub marks : r.marks ≡ false → after.state.marks ≡ before.state.marks
  pub toggle : r.toggle ≡ false → after.state.toggle ≡ before.state.toggle
  pub line : r.line ≡ false → after.state.line ≡ before.state.line
  pub chip : after.state.chip ≡ before.state.chip
