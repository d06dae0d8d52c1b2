-- The file after each stage of a plan, from the file before it.
-- Assumes nothing.
use Rattle.std.specs.Prelude.{ℕ, Bool, false, cond, List, get_or}
use Rattle.file.specs.declared.palette.Colour.{Colour}
use Rattle.file.specs.declared.palette.Pointer.{Pointer}
use Rattle.file.specs.declared.registers.File.{File}
use Rattle.file.specs.File.{with_palette, with_bank, with_pointer, with_toggle}
use Rattle.file.specs.Names.{MISC, ARX, PCI04, CR11, CR1A, B0}
use Rattle.file.specs.Palette.{by_colour, addressed, marked_read, marked_colour}
use Rattle.roads.specs.Roads.{index_roads}
use Rattle.roads.specs.Plan.{open_spaces, open_lock, open_palette, open_bank, open_sync}
use Rattle.roads.specs.RegisterStage.{with_register, brought}
use Rattle.roads.specs.ColourStage.{between, with_step, write_blue}

-- what the opening leaves, record by record
abbrev pub with_spaces_on : File → File
with_spaces_on f = with_register PCI04 open_spaces f

abbrev pub with_lock_off : File → File
with_lock_off f = with_register CR11 open_lock (with_spaces_on f)

abbrev pub with_misc : List ℕ → File → File
with_misc w f = with_register MISC (get_or w MISC 0) (with_lock_off f)

abbrev pub with_palette_chosen : List ℕ → File → File
with_palette_chosen w f = with_register B0 open_palette (with_misc w f)

abbrev pub with_palette_up : List ℕ → File → File
with_palette_up w f = with_register CR1A open_sync (with_palette_chosen w f)

unfoldable pub opened : List ℕ → File → File
opened w f = with_toggle false (with_palette_up w f)

-- the file with all colours as wanted, the pointer behind the bank's last entry, the marks write, blue
unfoldable pub coloured : List Colour → List Colour → File → File
coloured palette bank f = with_step (addressed false 16) write_blue (with_bank bank (with_palette palette (with_register B0 open_bank f)))

-- 02, 1/13: where the marking leaves the pointer, from behind the bank
unfoldable pub marked_pointer : ℕ → Pointer
marked_pointer m = by_colour (marked_colour m) (between 16 1 0 0) (between 16 2 0 0) (addressed false (cond (marked_read m) 17 16))

-- the file after the marking of sound marks: the marks as wanted, the pointer where that leaves it
unfoldable pub marked : ℕ → File → File
marked m f = with_step (marked_pointer m) m f

-- the file with the index registers and the toggle as wanted
unfoldable pub indexed : List ℕ → Bool → File → File
indexed w toggle f = with_toggle toggle (with_register ARX (get_or w ARX 0) (brought w (index_roads (get_or w MISC 0)) f))

-- the file with the pointer and what was open as wanted
unfoldable pub closed : List ℕ → Pointer → File → File
closed w p f =
    with_register PCI04 (get_or w PCI04 0)
    (with_register CR11 (get_or w CR11 0) (with_register CR1A (get_or w CR1A 0) (with_register B0 (get_or w B0 0) (with_pointer p f))))
