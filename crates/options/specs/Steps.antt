-- One word further. A word is wrong by the first of these that it fails, and after a wrong word no other is read.
-- Assumes nothing.
use Rattle.std.specs.Prelude.{ℕ, ◌+◌, Bool, false, cond, not, List, [], Option, Some, None, Result, Ok, Err, eqb, ltb}
use Rattle.std.specs.Option.{is_some}
use Rattle.file.specs.Readers.{ascii, same}
use Rattle.options.specs.declared.types.Command.{Command}
use Rattle.options.specs.declared.types.Reading.{Reading}
use Rattle.options.specs.declared.types.Refused.{Refused}
use Rattle.options.specs.declared.types.Slot.{Slot}
use Rattle.options.specs.declared.types.Slot.TheVariants.{Hex, Quiet, Chip, Engine, Since, Wide, Write, Summary, Of, Mhz, Operand}
use Rattle.options.specs.declared.types.Span.{Span}
use Rattle.options.specs.declared.types.Waiting.{Waiting}
use Rattle.options.specs.declared.types.Wrong.{Wrong}
use Rattle.options.specs.declared.types.Wrong.TheVariants.{UnknownCommand, UnknownOption, NoSuchChip, NoSuchEngine, NotWithValue, Twice, WideWithOf}
use Rattle.options.specs.declared.types.Wrong.TheVariants.{OneFileMore, EmptyName, TooManyWords}
use Rattle.options.specs.Words.{is_option, name_span, part, span}
use Rattle.options.specs.Table.{command_named, option_named, value_count}
use Rattle.options.specs.Slots.{awaiting, command_read, counted, filled, options_ended, refused, taken_at}

-- ---- values

unfoldable pub is_neither : List ℕ → List ℕ → List ℕ → Bool
is_neither word a b = cond (same word a) false (not (same word b))

-- CHIP is 5462 or 5464, ENGINE is quick or plain, and FILE1 isn't empty
unfoldable pub is_bad : Slot → List ℕ → Bool
unfolding ascii
is_bad Hex word = false
is_bad Quiet word = false
is_bad Chip word = is_neither word (ascii "5462") (ascii "5464")
is_bad Engine word = is_neither word (ascii "quick") (ascii "plain")
is_bad Since word = same word []
is_bad Wide word = false
is_bad Write word = false
is_bad Summary word = false
is_bad Of word = false
is_bad Mhz word = false
is_bad Operand word = false

unfoldable pub cause_of : Slot → Wrong
cause_of Hex = EmptyName
cause_of Quiet = EmptyName
cause_of Chip = NoSuchChip
cause_of Engine = NoSuchEngine
cause_of Since = EmptyName
cause_of Wide = EmptyName
cause_of Write = EmptyName
cause_of Summary = EmptyName
cause_of Of = EmptyName
cause_of Mhz = EmptyName
cause_of Operand = EmptyName

abbrev pub waiting : Slot → Span → Waiting
waiting slot option = record { slot = slot; option = option }

-- --of takes two values
unfoldable pub waits_next : Slot → Span → Option Waiting
waits_next Hex option = None
waits_next Quiet option = None
waits_next Chip option = None
waits_next Engine option = None
waits_next Since option = None
waits_next Wide option = None
waits_next Write option = None
waits_next Summary option = None
waits_next Of option = Some (waiting Mhz option)
waits_next Mhz option = None
waits_next Operand option = None

unfoldable pub next_waiting : Waiting → Option Waiting
next_waiting w = waits_next w.slot w.option

unfoldable pub value_taken : Reading → Waiting → Span → Reading
value_taken r w s = awaiting (filled r w.slot s) (next_waiting w)

-- the value that is waited for
unfoldable pub valued : List ℕ → Reading → Waiting → Span → Result Reading Refused
valued words r w s = cond (is_bad w.slot (part words s)) (Err (refused r (cause_of w.slot) (Some s))) (Ok (value_taken r w s))

-- ---- FILE

unfoldable pub operand : List ℕ → Reading → Span → Result Reading Refused
operand words r s =
    cond (is_some (taken_at r Operand)) (Err (refused r OneFileMore (Some s)))
    (cond (same (part words s) []) (Err (refused r EmptyName (Some s))) (Ok (filled r Operand s)))

-- ---- options

-- with an '=' after its name: the rest of the word is its value, if it takes one
unfoldable pub equalled : List ℕ → Reading → Slot → Span → ℕ → Result Reading Refused
equalled words r option name end =
    cond (eqb (value_count option) 1) (valued words r (waiting option name) (span (name.end + 1) end)) (Err (refused r NotWithValue (Some name)))

-- without one: the next word is its value, if it takes any
unfoldable pub alone : Reading → Slot → Span → Reading
alone r option name = cond (eqb (value_count option) 0) (filled r option name) (awaiting r (Some (waiting option name)))

-- 'not both --wide and --of'
unfoldable pub is_excluded : Reading → Slot → Bool
is_excluded r Hex = false
is_excluded r Quiet = false
is_excluded r Chip = false
is_excluded r Engine = false
is_excluded r Since = false
is_excluded r Wide = is_some (taken_at r Of)
is_excluded r Write = false
is_excluded r Summary = false
is_excluded r Of = is_some (taken_at r Wide)
is_excluded r Mhz = false
is_excluded r Operand = false

unfoldable pub allowed : List ℕ → Reading → Slot → Span → ℕ → Result Reading Refused
allowed words r option name end =
    cond (is_some (taken_at r option)) (Err (refused r Twice (Some name)))
    (cond (is_excluded r option) (Err (refused r WideWithOf (Some name)))
    (cond (ltb name.end end) (equalled words r option name end) (Ok (alone r option name))))

-- the option that a name is, of which the command may have none
unfoldable pub optioned_by : List ℕ → Reading → Option Slot → Span → ℕ → Result Reading Refused
optioned_by words r None name end = Err (refused r UnknownOption (Some name))
optioned_by words r (Some option) name end = allowed words r option name end

unfoldable pub optioned : List ℕ → Reading → Command → Span → Result Reading Refused
optioned words r command s = optioned_by words r (option_named command (part words (name_span words s))) (name_span words s) s.end

-- ---- words

unfoldable pub commanded_by : Reading → Span → Option Command → Result Reading Refused
commanded_by r s None = Err (refused r UnknownCommand (Some s))
commanded_by r s (Some command) = Ok (command_read r command)

unfoldable pub commanded : List ℕ → Reading → Span → Result Reading Refused
commanded words r s = commanded_by r s (command_named (part words s))

-- where no -- stands before the word
unfoldable pub unended : List ℕ → Reading → Command → Span → Result Reading Refused
unfolding ascii
unended words r command s =
    cond (same (part words s) (ascii "--")) (Ok (options_ended r)) (cond (is_option (part words s)) (optioned words r command s) (operand words r s))

-- the word that is counted last, by the command and by what waits for a value
unfoldable pub worded_by : List ℕ → Reading → Option Command → Option Waiting → Span → Result Reading Refused
worded_by words r None w s = commanded words r s
worded_by words r (Some command) None s = cond r.ended (operand words r s) (unended words r command s)
worded_by words r (Some command) (Some w) s = valued words r w s

unfoldable pub worded : List ℕ → Reading → Span → Result Reading Refused
worded words r s = worded_by words r r.command r.waiting s

unfoldable pub stepped : List ℕ → Reading → Span → Result Reading Refused
stepped words r s = cond (ltb r.count 64) (worded words (counted r) s) (Err (refused r TooManyWords None))
