-- 02, 11/13, 'the current file and saved file differ somewhere outside the set': what two files share where a set names nothing.
-- Assumes nothing.
use Rattle.std.specs.Prelude.{ℕ, ◌<◌, Bool, false, List, ◌&&◌, ◌||◌, ◌≡◌, eqb, get_or}
use Rattle.std.specs.Bool.{beq}
use Rattle.bits.specs.Every.{every_below}
use Rattle.file.specs.declared.palette.Colour.{Colour}
use Rattle.file.specs.declared.palette.Pointer.{Pointer}
use Rattle.file.specs.declared.registers.File.{File}
use Rattle.file.specs.File.{register, black, palette_count, bank_count}
use Rattle.file.specs.Registers.{register_count}
use Rattle.touched.specs.declared.set.Touched.{Touched}

unfoldable pub same_bools : Bool → Bool → Bool
same_bools a b = beq a b

unfoldable pub same_colour : Colour → Colour → Bool
same_colour c d = eqb c.red d.red && (eqb c.green d.green && eqb c.blue d.blue)

unfoldable pub same_pointer : Pointer → Pointer → Bool
same_pointer p q =
    eqb p.address q.address && (same_bools p.reading q.reading && (eqb p.next q.next && (eqb p.red q.red && eqb p.green q.green)))

-- at a number: it is named, or both lists hold the same there
unfoldable pub agrees_at : {A : Type 0} → (A → A → Bool) → A → List Bool → List A → List A → ℕ → Bool
agrees_at same none named from to n = get_or named n false || same (get_or from n none) (get_or to n none)

-- of two files' registers and entries
unfoldable pub register_agrees : Touched → File → File → ℕ → Bool
register_agrees s f w n = agrees_at eqb 0 s.registers f.registers w.registers n

unfoldable pub palette_agrees : Touched → File → File → ℕ → Bool
palette_agrees s f w n = agrees_at same_colour black s.palette f.palette w.palette n

unfoldable pub bank_agrees : Touched → File → File → ℕ → Bool
bank_agrees s f w n = agrees_at same_colour black s.bank f.bank w.bank n

-- of pointer, marks and toggle
unfoldable pub state_agrees : Touched → File → File → Bool
state_agrees s f w =
    (s.pointer || same_pointer f.state.pointer w.state.pointer)
    && (s.marks || eqb f.state.marks w.state.marks)
    && (s.toggle || same_bools f.state.toggle w.state.toggle)

-- two files differ nowhere outside a set. The chip is tested before (code 15), 'The line stays outside'
unfoldable pub agrees_outside : Touched → File → File → Bool
agrees_outside s f w =
    every_below (register_agrees s f w) register_count
    && every_below (palette_agrees s f w) palette_count
    && every_below (bank_agrees s f w) bank_count
    && state_agrees s f w

-- the same, thing by thing
pub record SameElsewhere (s : Touched) (f w : File) : Type 0 where
  pub registers : (n : ℕ) → n < register_count → get_or s.registers n false ≡ false → register f n ≡ register w n
  pub palette : (n : ℕ) → n < palette_count → get_or s.palette n false ≡ false → get_or f.palette n black ≡ get_or w.palette n black
  pub bank : (n : ℕ) → n < bank_count → get_or s.bank n false ≡ false → get_or f.bank n black ≡ get_or w.bank n black
  pub pointer : s.pointer ≡ false → f.state.pointer ≡ w.state.pointer
  pub marks : s.marks ≡ false → f.state.marks ≡ w.state.marks
  pub toggle : s.toggle ≡ false → f.state.toggle ≡ w.state.toggle
