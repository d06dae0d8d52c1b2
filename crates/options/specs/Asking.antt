-- What the words ask for: they are read one after the other, then it is tested what can be tested after the last alone.
-- Assumes nothing.
use Rattle.std.specs.Prelude.{ℕ, ◌-◌, Bool, false, cond, ◌&&◌, List, [], ◌∷◌, Option, Some, None, Result, Ok, Err, eqb, length, get_or}
use Rattle.std.specs.Option.{is_some}
use Rattle.file.specs.declared.chip.Chip as chip
use Rattle.file.specs.declared.chip.Chip.TheVariants.{Gd5462, Gd5464}
use Rattle.file.specs.Readers.{ascii, same}
use Rattle.options.specs.declared.types.Asked.{Asked}
use Rattle.options.specs.declared.types.Command.{Command}
use Rattle.options.specs.declared.types.Of as of
use Rattle.options.specs.declared.types.Reading.{Reading}
use Rattle.options.specs.declared.types.Refused.{Refused}
use Rattle.options.specs.declared.types.Slot.{Slot}
use Rattle.options.specs.declared.types.Slot.TheVariants.{Hex, Quiet, Chip, Engine, Since, Wide, Write, Summary, Of, Mhz, Operand}
use Rattle.options.specs.declared.types.Span.{Span}
use Rattle.options.specs.declared.types.Waiting.{Waiting}
use Rattle.options.specs.declared.types.Wrong.{Wrong}
use Rattle.options.specs.declared.types.Wrong.TheVariants.{NoCommand, NoValue, NoTwoValues, NoFile, BothStandardInput, TooLong}
use Rattle.options.specs.Words.{part, words_from}
use Rattle.options.specs.Slots.{begun, refused, taken_at}
use Rattle.options.specs.Steps.{stepped}
use Rattle.options.specs.Inputs.{is_standard_input}

-- some words, one after the other, until one is wrong
unfoldable pub folded : List ℕ → Result Reading Refused → List Span → Result Reading Refused
folded words r [] = r
folded words (Err e) (s ∷ more) = Err e
folded words (Ok r) (s ∷ more) = folded words (stepped words r s) more

unfoldable pub read_words : List ℕ → Result Reading Refused
read_words words = folded words (Ok begun) (words_from 0 0 words)

-- ---- after the last word

unfoldable pub lack_of : Slot → Wrong
lack_of Hex = NoValue
lack_of Quiet = NoValue
lack_of Chip = NoValue
lack_of Engine = NoValue
lack_of Since = NoValue
lack_of Wide = NoValue
lack_of Write = NoValue
lack_of Summary = NoValue
lack_of Of = NoTwoValues
lack_of Mhz = NoTwoValues
lack_of Operand = NoTwoValues

unfoldable pub both_standard : List ℕ → Option Span → Span → Bool
both_standard words None file = false
both_standard words (Some since) file = is_standard_input words since && is_standard_input words file

-- ---- what is asked for

unfoldable pub chip_named : List ℕ → Option Span → chip.Chip
unfolding ascii
chip_named words None = Gd5464
chip_named words (Some name) = cond (same (part words name) (ascii "5462")) Gd5462 Gd5464

unfoldable pub is_plain : List ℕ → Option Span → Bool
unfolding ascii
is_plain words None = false
is_plain words (Some name) = same (part words name) (ascii "plain")

unfoldable pub of_both : Option Span → Option Span → Option of.Of
of_both None mhz = None
of_both (Some name) None = None
of_both (Some name) (Some mhz) = Some (record { name = name; mhz = mhz })

unfoldable pub asked_by : List ℕ → Reading → Command → Span → Asked
asked_by words r command file =
    record {
      command = command;
      chip = chip_named words (taken_at r Chip);
      plain = is_plain words (taken_at r Engine);
      hex = is_some (taken_at r Hex);
      quiet = is_some (taken_at r Quiet);
      wide = is_some (taken_at r Wide);
      summary = is_some (taken_at r Summary);
      since = taken_at r Since;
      of = of_both (taken_at r Of) (taken_at r Mhz);
      list = taken_at r Write;
      file = file;
    }

-- by the command, by what waits for a value, and by FILE
unfoldable pub told_by : List ℕ → Reading → Option Command → Option Waiting → Option Span → Result Asked Refused
told_by words r None waiting file = Err (refused r NoCommand None)
told_by words r (Some command) (Some w) file = Err (refused r (lack_of w.slot) (Some w.option))
told_by words r (Some command) None None = Err (refused r NoFile None)
told_by words r (Some command) None (Some file) =
    cond (both_standard words (taken_at r Since) file) (Err (refused r BothStandardInput (Some file))) (Ok (asked_by words r command file))

unfoldable pub told : List ℕ → Reading → Result Asked Refused
told words r = told_by words r r.command r.waiting (taken_at r Operand)

unfoldable pub told_of : List ℕ → Result Reading Refused → Result Asked Refused
told_of words (Err e) = Err e
told_of words (Ok r) = told words r

-- the last word is ended by a zero byte
unfoldable pub is_whole : List ℕ → Bool
is_whole words = eqb (get_or words (length words - 1) 0) 0

unfoldable pub asked : List ℕ → Result Asked Refused
asked words = cond (is_whole words) (told_of words (read_words words)) (Err (refused begun TooLong None))
