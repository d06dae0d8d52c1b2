-- The stage of colours, over any list of stretches of entries: where it runs, and what it leaves.
-- Assumes nothing.
use Rattle.std.specs.Prelude.{ℕ, ◌+◌, ◌%◌, ◌<◌, ◌≡◌, Bool, true, false, cond, ◌&&◌, ◌||◌, List, [], ◌∷◌, ◌++◌, T, leb, ltb, get_or, length}
use Rattle.std.proofs.lemmas.List.Edits.{sets}
use Rattle.file.specs.declared.palette.Colour.{Colour}
use Rattle.file.specs.declared.palette.Pointer.{Pointer}
use Rattle.file.specs.declared.registers.File.{File}
use Rattle.file.specs.File.{register, with_palette, with_bank, with_state, black}
use Rattle.file.specs.Names.{CR1A, B0}
use Rattle.file.specs.Palette.{addressed, marks_of}
use Rattle.file.specs.Sound.{sound}
use Rattle.file.specs.State.{stepping}
use Rattle.access.specs.declared.record.Record.{Record}
use Rattle.access.specs.Access.{palette_up, in_bank}
use Rattle.roads.specs.Plan.{open_palette, open_bank, open_sync, entries}
use Rattle.roads.specs.Restores.{bytes}
use Rattle.roads.specs.RegisterStage.{SpacesOn}

-- ---- where it runs

-- a file that lets colours through: both spaces on, the palette up, the palette or the bank chosen
pub record PaletteReady (f : File) (bank : Bool) : Type 0 where
  pub is_sound : T (sound f)
  pub on : SpacesOn f
  pub up : palette_up f ≡ true
  pub chosen : in_bank f ≡ bank

-- B0 and CR1A as a plan opens them for the palette or the bank (02, 7/13)
pub record PaletteOpen (f : File) (bank : Bool) : Type 0 where
  pub b0 : register f B0 ≡ cond bank open_bank open_palette
  pub sync : register f CR1A ≡ open_sync

-- how many entries there are
abbrev pub entry_count : Bool → ℕ
entry_count bank = cond bank 16 256

-- a stretch of entries from one on
pub record Stretch : Type 0 where
  pub first : ℕ
  pub colours : List Colour

-- it lies within the palette or the bank
unfoldable pub in_range : Bool → Stretch → Bool
in_range bank stretch = ltb stretch.first 256 && leb (stretch.first + length stretch.colours) (entry_count bank) && bytes stretch.colours

unfoldable pub every_stretch : (Stretch → Bool) → List Stretch → Bool
every_stretch test [] = true
every_stretch test (stretch ∷ stretches) = test stretch && every_stretch test stretches

-- ---- what it leaves

unfoldable pub stretch_records : List Stretch → List Record
stretch_records [] = []
stretch_records (stretch ∷ stretches) = entries stretch.first stretch.colours ++ stretch_records stretches

-- the palette or the bank, and the file with another
abbrev pub entries_in : Bool → File → List Colour
entries_in bank f = cond bank f.bank f.palette

abbrev pub with_entries : Bool → List Colour → File → File
with_entries bank cs f = cond bank (with_bank cs f) (with_palette cs f)

-- the file with colours from an entry on: all else is as before
unfoldable pub painted : Bool → ℕ → List Colour → File → File
painted bank first cs f = with_entries bank (sets (entries_in bank f) first cs) f

-- the pointer among the three bytes of an entry, in write mode: address, next colour, held red, held green
abbrev pub between : ℕ → ℕ → ℕ → ℕ → Pointer
between address next red green = record { address = address; reading = false; next = next; red = red; green = green }

-- the file with another pointer and other marks
unfoldable pub with_step : Pointer → ℕ → File → File
unfolding with_state stepping
with_step pointer marks f = with_state (stepping pointer marks f.state) f

-- 02, 1/13: the marks that an entry's third byte leaves
abbrev pub write_blue : ℕ
write_blue = marks_of false 2

-- the marks after some entries, from those before; no entry leaves them
unfoldable pub marks_after : ℕ → List Colour → ℕ
marks_after m [] = m
marks_after m (c ∷ cs) = write_blue

-- the file after a stretch: its colours, the pointer behind them, the marks that they leave
unfoldable pub after_stretch : Bool → Stretch → File → File
after_stretch bank stretch f =
    with_step (addressed false ((stretch.first + length stretch.colours) % 256)) (marks_after f.state.marks stretch.colours)
    (painted bank stretch.first stretch.colours f)

unfoldable pub after_stretches : Bool → List Stretch → File → File
after_stretches bank [] f = f
after_stretches bank (stretch ∷ stretches) f = after_stretches bank stretches (after_stretch bank stretch f)

unfoldable pub entries_after : List Stretch → List Colour → List Colour
entries_after [] l = l
entries_after (stretch ∷ stretches) l = entries_after stretches (sets l stretch.first stretch.colours)

-- ---- in each entry

-- the entries that a stretch names
unfoldable pub in_stretch : ℕ → Stretch → Bool
in_stretch n stretch = leb stretch.first n && ltb n (stretch.first + length stretch.colours)

-- a stretch's colours are those of a list, at the entries that it names
abbrev pub Agrees : List Colour → Stretch → Type 0
Agrees wanted stretch = (k : ℕ) → k < length stretch.colours → get_or stretch.colours k black ≡ get_or wanted (stretch.first + k) black

abbrev pub AllAgree : List Colour → List Stretch → Type 0
AllAgree wanted [] = Unit {0}
AllAgree wanted (stretch ∷ stretches) = Agrees wanted stretch × AllAgree wanted stretches

-- whether an entry holds its wanted colour after some stretches, if it did or did not before
unfoldable pub colour_ends_wanted : List Stretch → ℕ → Bool → Bool
colour_ends_wanted [] n held = held
colour_ends_wanted (stretch ∷ stretches) n held = colour_ends_wanted stretches n (in_stretch n stretch || held)
