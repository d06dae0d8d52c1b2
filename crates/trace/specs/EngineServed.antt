-- What a run's engine goes by, and nobody beside 01 needs: one access on the registers where they stand and the state by value, and what it paints.
-- Assumes nothing.
use Rattle.std.specs.Prelude.{ℕ, ◌%◌, ◌<◌, ◌≤◌, ◌≡◌, Bool, true, false, cond, not, ◌&&◌, List, T, eqb, ltb, get_or, set}
use Rattle.file.specs.declared.answer.Answer.{Answer}
use Rattle.file.specs.declared.effect.Effect.{Effect}
use Rattle.file.specs.declared.effect.Effect.TheVariants.{Nothing, Store, Toggle, Move, Step, Paint, Pass}
use Rattle.file.specs.declared.chip.Chip.{Chip}
use Rattle.file.specs.declared.palette.Colour.{Colour}
use Rattle.file.specs.declared.palette.Pointer.{Pointer}
use Rattle.file.specs.declared.registers.File.{File}
use Rattle.file.specs.declared.state.State.{State}
use Rattle.file.specs.Answers.{code_of, value_of}
use Rattle.file.specs.Effects.{apply}
use Rattle.file.specs.File.{seen, black, bank_count}
use Rattle.file.specs.Palette.{component}
use Rattle.file.specs.State.{unasked}
use Rattle.file.specs.Registers.{register_count, stored_table}
use Rattle.file.specs.Sound.{sound}
use Rattle.places.specs.EngineCells.{cell_table}
use Rattle.access.specs.declared.record.Record.{Record}
use Rattle.access.specs.Access.{answer, effect, in_bank}
use Rattle.access.specs.Engine.{asks_pixel}
use Rattle.quick.specs.Classes.{codes_of}
unfoldable pub use Rattle.quick.specs.Painting.{paints, paints_bank, paints_colour}
use Rattle.quick.specs.Said.{plain_said, code_in, value_in, mark_in, pixel_in, paints_in, bank_in, colour_in, next_in, address_in}
use Rattle.quick.specs.Smalls.{smalls_of, state_of}
use Rattle.trace.specs.declared.running.Served.{Served}

-- an answer, with nothing done yet
pub record Answered (a : Answer) (asks : Bool) (held : State) (s : Served) : Type 0 where
  pub code : s.code ≡ code_of a
  pub value : s.value ≡ value_of a
  pub pixel : s.pixel ≡ asks
  pub state : s.state ≡ held
  pub unpainted : s.paints ≡ false

-- an effect lands if its register is one of the file's and its entry the one that the pointer names
unfoldable pub lands : State → Effect → Bool
lands s Nothing = true
lands s (Store flips number reach value) = ltb number register_count
lands s (Toggle toggle) = true
lands s (Move pointer) = true
lands s (Step pointer marks) = true
lands s (Paint bank entry pointer colour marks) = eqb entry (cond bank (s.pointer.address % bank_count) s.pointer.address)
lands s (Pass line) = true

-- an effect put on registers and state: what was answered stays, and what it paints is told
pub record Puts (registers : List ℕ) (before : Served) (e : Effect) (after : List ℕ) (s : Served) : Type 0 where
  pub code : s.code ≡ before.code
  pub value : s.value ≡ before.value
  pub pixel : s.pixel ≡ before.pixel
  pub left : T (lands before.state e) → apply e (seen registers before.state) ≡ seen after s.state
  pub painting : before.paints ≡ false → s.paints ≡ paints e
  pub bank : s.bank ≡ paints_bank before.bank e
  pub colour : s.colour ≡ paints_colour before.colour e

-- one access in a file of which registers and state are looked at
pub record Serves (f : File) (asked : Record) (after : List ℕ) (s : Served) : Type 0 where
  pub code : s.code ≡ code_of (answer f asked)
  pub value : s.value ≡ value_of (answer f asked)
  pub pixel : s.pixel ≡ asks_pixel f asked
  pub left : apply (effect f asked) f ≡ seen after s.state
  pub painting : s.paints ≡ paints (effect f asked)
  pub bank : s.paints ≡ true → s.bank ≡ paints_bank false (effect f asked)
  pub colour : s.paints ≡ true → s.colour ≡ paints_colour s.colour (effect f asked)

-- ---- what is served as one number

unfoldable pub served_of : ℕ → State → Served
served_of said state =
    record {
      code = code_in said;
      value = value_in said;
      state = state;
      pixel = pixel_in said;
      paints = paints_in said;
      bank = bank_in said;
      colour = colour_in said;
    }

-- what a number says of what was served with the pointer here: an entry painted, a pixel shown, or code and value
pub record Says (s : Served) (p : Pointer) (said : ℕ) : Type 0 where
  pub paint : s.paints ≡ true
      → (code_in said ≡ 0) × (value_in said ≡ 0) × (mark_in said ≡ cond s.bank 3 2) × (address_in said ≡ p.address) × (colour_in said ≡ s.colour) × (plain_said ≤ said)
  pub pixel : s.paints ≡ false → s.pixel ≡ true
      → (code_in said ≡ 0) × (value_in said ≡ 0) × (mark_in said ≡ 1) × (address_in said ≡ p.address) × (next_in said ≡ p.next) × (plain_said ≤ said)
  pub plain : s.paints ≡ false → s.pixel ≡ false → (code_in said ≡ s.code) × (value_in said ≡ s.value) × (said < plain_said)

-- one access on registers, the bytes of the state and the codes of the classes, where they stand
pub record Turns (registers smalls : List ℕ) (chip : Chip) (line : ℕ) (asked : Record) (after smalls-after codes-after : List ℕ) (line_after said : ℕ) : Type 0 where
  pub served : Serves (seen registers (state_of chip line smalls)) asked after (served_of said (state_of chip line_after smalls-after))
  pub whole : smalls-after ≡ smalls_of (state_of chip line_after smalls-after)
  pub coded : codes-after ≡ codes_of after
  pub address : plain_said ≤ said → address_in said ≡ (state_of chip line smalls).pointer.address
  pub next : pixel_in said ≡ true → next_in said ≡ (state_of chip line smalls).pointer.next

-- what it is made from: 01's tables, the state's bytes and the classes' codes as they should be, and a sound file
pub record Ready (cells stored registers smalls codes : List ℕ) (chip : Chip) (line : ℕ) : Type 0 where
  pub table : cells ≡ cell_table chip
  pub bits : stored ≡ stored_table chip
  pub whole : smalls ≡ smalls_of (state_of chip line smalls)
  pub coded : codes ≡ codes_of registers
  pub good : T (sound (seen registers (state_of chip line smalls)))

-- what a record says to the colours, and the value of its reply: what is shown where it reads a pixel
pub record Coloured (registers : List ℕ) (palette bank : List Colour) (said : ℕ) (palette_after bank_after : List Colour) (value : ℕ) : Type 0 where
  pub shown : value
      ≡ cond (pixel_in said)
      (component (cond (in_bank (seen registers unasked)) (get_or bank (address_in said % bank_count) black) (get_or palette (address_in said) black)) (next_in said))
      (value_in said)
  pub entries : palette_after ≡ cond (paints_in said && not (bank_in said)) (set palette (address_in said) (colour_in said)) palette
  pub borders : bank_after ≡ cond (paints_in said && bank_in said) (set bank (address_in said % bank_count) (colour_in said)) bank
