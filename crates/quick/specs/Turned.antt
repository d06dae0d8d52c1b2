-- What a run's engine goes by, and nobody beside 01 needs: a decision carried out on a file's parts where they stand.
-- Assumes nothing.
use Rattle.std.specs.Prelude.{ℕ, ◌≤◌, ◌≡◌, true, false, cond, List, get_or, set}
use Rattle.bits.specs.Store.{store}
use Rattle.file.specs.declared.answer.Answer.TheVariants.{Done, Locked}
use Rattle.file.specs.declared.registers.File.{File}
use Rattle.file.specs.Answers.{code_of, value_of}
use Rattle.file.specs.Effects.{apply}
use Rattle.file.specs.File.{seen}
use Rattle.file.specs.State.{unasked}
use Rattle.access.specs.declared.engine.Decision.{Decision}
use Rattle.access.specs.Access.{locked_out}
use Rattle.access.specs.Engine.{reach_by}
use Rattle.quick.specs.Painting.{paints, paints_bank, paints_colour}
use Rattle.quick.specs.Said.{plain_said, code_in, value_in, pixel_in, paints_in, bank_in, colour_in, next_in, address_in, Told}
use Rattle.quick.specs.Smalls.{smalls_of}
use Rattle.quick.specs.Classes.{codes_of}

-- a register's write, by whatever table of stored bits: what is told, and the registers after it
pub record Stored (stored before : List ℕ) (number value : ℕ) (after : List ℕ) (said : ℕ) : Type 0 where
  pub told : Told (cond (locked_out (seen before unasked) number) Locked (Done 0)) said
  pub left : after
      ≡ cond (locked_out (seen before unasked) number) before
      (set before number (store (reach_by stored (seen before unasked) number) (get_or before number 0) value))

-- a decision in a file of which registers and state are looked at: what is said of it, and what its effect leaves. None of these lets lines pass
pub record Turned (d : Decision) (f : File) (registers smalls : List ℕ) (said : ℕ) : Type 0 where
  pub code : code_in said ≡ code_of d.answer
  pub value : value_in said ≡ value_of d.answer
  pub pixel : pixel_in said ≡ d.pixel
  pub held : registers ≡ (apply d.effect f).registers
  pub state : smalls ≡ smalls_of (apply d.effect f).state
  pub line : (apply d.effect f).state.line ≡ f.state.line
  pub address : plain_said ≤ said → address_in said ≡ f.state.pointer.address
  pub next : pixel_in said ≡ true → next_in said ≡ f.state.pointer.next
  pub painting : paints_in said ≡ paints d.effect
  pub bank : paints_in said ≡ true → bank_in said ≡ paints_bank false d.effect
  pub colour : paints_in said ≡ true → colour_in said ≡ paints_colour (colour_in said) d.effect

-- the codes of the classes go along with the registers
unfoldable pub Coded : List ℕ → List ℕ → List ℕ → List ℕ → Type 0
Coded registers codes after codes-after = codes ≡ codes_of registers → codes-after ≡ codes_of after
