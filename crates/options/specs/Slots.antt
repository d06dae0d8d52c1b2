-- How far the words are read. What they give fills slots: one for each option, one more for the second value of --of, and one for FILE.
-- Assumes nothing.
use Rattle.std.specs.Prelude.{ℕ, ◌+◌, true, false, Option, Some, None, get_or, set, replicate}
use Rattle.options.specs.declared.types.Command.{Command}
use Rattle.options.specs.declared.types.Reading.{Reading}
use Rattle.options.specs.declared.types.Refused.{Refused}
use Rattle.options.specs.declared.types.Slot.{Slot}
use Rattle.options.specs.declared.types.Slot.TheVariants.{Hex, Quiet, Chip, Engine, Since, Wide, Write, Summary, Of, Mhz, Operand}
use Rattle.options.specs.declared.types.Span.{Span}
use Rattle.options.specs.declared.types.Waiting.{Waiting}
use Rattle.options.specs.declared.types.Wrong.{Wrong}

-- the place of a slot among them
unfoldable pub number_of : Slot → ℕ
number_of Hex = 0
number_of Quiet = 1
number_of Chip = 2
number_of Engine = 3
number_of Since = 4
number_of Wide = 5
number_of Write = 6
number_of Summary = 7
number_of Of = 8
number_of Mhz = 9
number_of Operand = 10

-- how many there are
abbrev pub slot_count : ℕ
slot_count = 11

-- before the first word
unfoldable pub begun : Reading
begun = record { count = 0; command = None; ended = false; waiting = None; filled = replicate slot_count None }

-- the words are refused
unfoldable pub refused : Reading → Wrong → Option Span → Refused
refused r wrong word = record { wrong = wrong; word = word; command = r.command; reading = r }

unfoldable pub counted : Reading → Reading
counted r = record { count = r.count + 1; command = r.command; ended = r.ended; waiting = r.waiting; filled = r.filled }

unfoldable pub command_read : Reading → Command → Reading
command_read r command = record { count = r.count; command = Some command; ended = r.ended; waiting = r.waiting; filled = r.filled }

-- after --
unfoldable pub options_ended : Reading → Reading
options_ended r = record { count = r.count; command = r.command; ended = true; waiting = r.waiting; filled = r.filled }

-- what the next word is the value of
unfoldable pub awaiting : Reading → Option Waiting → Reading
awaiting r waiting = record { count = r.count; command = r.command; ended = r.ended; waiting = waiting; filled = r.filled }

unfoldable pub taken_at : Reading → Slot → Option Span
taken_at r slot = get_or r.filled (number_of slot) None

unfoldable pub filled : Reading → Slot → Span → Reading
filled r slot s =
    record { count = r.count; command = r.command; ended = r.ended; waiting = r.waiting; filled = set r.filled (number_of slot) (Some s) }
