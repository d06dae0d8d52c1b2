-- 02, 6/13, 'Make the chip a choice when a file is created (replay stays 5464)', and 8/13, 'let the replay program be built over either': by the words
-- that a program is started with.
-- Assumes nothing.
use Rattle.std.specs.Prelude.{ℕ, min, cond, List, Option, Some, None, eqb, leb, take}
use Rattle.std.specs.List.{slice_get}
use Rattle.std.specs.Option.{option_and_then, option_map}
use Rattle.engines.specs.declared.Engine.{Engine}
use Rattle.engines.specs.declared.Engine.TheVariants.{Quick, Plain}
use Rattle.file.specs.declared.chip.Chip.{Chip}
use Rattle.file.specs.declared.chip.Chip.TheVariants.{Gd5462, Gd5464}
use Rattle.file.specs.Readers.{ascii, same}
use Rattle.choosing.specs.declared.choosing.Chosen.{Chosen}
use Rattle.choosing.specs.declared.options.Wish.{Wish}
use Rattle.choosing.specs.declared.options.Wish.TheVariants.{OnChip, ByEngine}
use Rattle.choosing.specs.declared.words.Asked.{Asked}
use Rattle.choosing.specs.declared.words.Word.{Word}
use Rattle.choosing.specs.declared.words.Words.{Words}

-- a word's bytes, of which it has 8
unfoldable pub text_of : Word → List ℕ
text_of word = take (min word.size 8) word.bytes

-- a chip by its name, and an engine
unfoldable pub chip_named : List ℕ → Option Wish
unfolding ascii
chip_named name =
    cond (same name (ascii "5462")) (Some (OnChip Gd5462)) (cond (same name (ascii "5464")) (Some (OnChip Gd5464)) None)

unfoldable pub engine_named : List ℕ → Option Wish
unfolding ascii
engine_named name =
    cond (same name (ascii "quick")) (Some (ByEngine Quick)) (cond (same name (ascii "plain")) (Some (ByEngine Plain)) None)

-- an option and the name behind it
unfoldable pub wanted_by : List ℕ → List ℕ → Option Wish
unfolding ascii
wanted_by option name = cond (same option (ascii "--chip")) (chip_named name) (cond (same option (ascii "--engine")) (engine_named name) None)

unfoldable pub wanted : Asked → Option Wish
wanted asked = wanted_by (text_of asked.option) (text_of asked.name)

abbrev pub on : Chip → Engine → Chosen
on chip engine = record { chip = chip; engine = engine }

-- one option; what it doesn't name is the 5464, or the quick engine
unfoldable pub by_one : Wish → Chosen
by_one (OnChip chip) = on chip Quick
by_one (ByEngine engine) = on Gd5464 engine

-- two, one of each, in either order
unfoldable pub by_two : Wish → Wish → Option Chosen
by_two (OnChip chip) (OnChip other) = None
by_two (OnChip chip) (ByEngine engine) = Some (on chip engine)
by_two (ByEngine engine) (OnChip chip) = Some (on chip engine)
by_two (ByEngine engine) (ByEngine other) = None

-- what the option of a number wants: the first is 0
abbrev pub wanted_at : Words → ℕ → Option Wish
wanted_at words k = option_and_then wanted (slice_get words.asked k)

-- how many words there are, the program's own name among them: none behind it, an option with its name, or two
unfoldable pub chosen_by : Words → Option Chosen
chosen_by words =
    cond (leb words.count 1) (Some (on Gd5464 Quick))
    (cond (eqb words.count 3) (option_map by_one (wanted_at words 0))
    (cond (eqb words.count 5) (option_and_then (λ (one : Wish). option_and_then (by_two one) (wanted_at words 1)) (wanted_at words 0)) None))
