-- Worked examples, in one computed test: some words, and what was asked for, or what is said of them. Assumes nothing.
use Prim.Native.Nat.{ℕ}
use Prim.Native.String.{String}
use mathlib.Core.Bool.{Bool, true, cond, ◌&&◌}
use mathlib.Core.List.{List, [], ◌∷◌, ◌++◌}
use lib.Dec.{T}
use Rattle.std.proofs.Common.{Result, Ok, Err}
use Rattle.std.specs.Option.{is_some, unwrap_or}
use Rattle.file.specs.declared.chip.Chip.{Chip}
use Rattle.file.specs.declared.chip.Chip.TheVariants.{Gd5462, Gd5464}
use Rattle.file.specs.Readers.{ascii, same}
use Rattle.text.specs.Text.{capital, newline}
use Rattle.escaping.specs.Escaped.{escape, escaped_byte, escaped_text, is_plain}
use Rattle.options.specs.declared.types.Asked.{Asked}
use Rattle.options.specs.declared.types.Command.TheVariants.{Bytes}
use Rattle.options.specs.declared.types.Refused.{Refused}
use Rattle.options.specs.declared.types.Slot.TheVariants.{Operand}
use Rattle.options.specs.Words.{ends_in_hex, is_option, name_in, name_span, part, word_at, words_from}
use Rattle.options.specs.Table.{command_name, command_named, commands, named_among, option_name, option_named, options_of, value_count}
use Rattle.options.specs.Slots.{awaiting, begun, command_read, counted, filled, number_of, options_ended, refused, taken_at}
use Rattle.options.specs.Steps.{allowed, alone, cause_of, commanded, commanded_by, equalled, is_bad, is_excluded, is_neither, next_waiting, operand}
use Rattle.options.specs.Steps.{optioned, optioned_by, stepped, unended, value_taken, valued, waits_next, worded, worded_by}
use Rattle.options.specs.Inputs.{is_bytes, is_standard_input, is_text}
use Rattle.options.specs.Asking.{asked, asked_by, both_standard, chip_named, folded, is_whole, lack_of, of_both, read_words, told, told_by, told_of}
use Rattle.options.specs.Asking as asking
use Rattle.options.specs.Lines.{shown}
use Rattle.options.specs.Messages as messages

-- words as they stand in the slice
unfoldable slice : List String → List ℕ
unfolding ascii
slice [] = []
slice (w ∷ ws) = ascii w ++ (0 ∷ slice ws)

record Example : Type 0 where
  words : List String
  -- the chip, and the marks plain, hex, quiet, wide, summary, since, of, write, and whether FILE is text for people, and FILE
  marks : List ℕ
  file : String
  -- or what is said after 'sedgecoil: '
  said : String

abbrev example : List String → List ℕ → String → Example
example words marks file = record { words = words; marks = marks; file = file; said = "" }

abbrev wrong : List String → String → List ℕ → String → Example
wrong words said marks file = record { words = words; marks = marks; file = file; said = said }

unfoldable examples : List Example
examples =
    example ("replay" ∷ "FILE" ∷ "--chip=5462" ∷ []) (5462 ∷ 0 ∷ 0 ∷ 0 ∷ 0 ∷ 0 ∷ 0 ∷ 0 ∷ 0 ∷ 0 ∷ []) "FILE"
    ∷ example ("replay" ∷ "--chip" ∷ "5464" ∷ "--quiet" ∷ "a.hex" ∷ []) (5464 ∷ 0 ∷ 0 ∷ 1 ∷ 0 ∷ 0 ∷ 0 ∷ 0 ∷ 0 ∷ 1 ∷ []) "a.hex"
    ∷ example ("geometry" ∷ "--engine" ∷ "plain" ∷ "--" ∷ "--hex" ∷ []) (5464 ∷ 1 ∷ 0 ∷ 0 ∷ 0 ∷ 0 ∷ 0 ∷ 0 ∷ 0 ∷ 0 ∷ []) "--hex"
    ∷ example ("snapshot" ∷ "--since" ∷ "-" ∷ "x" ∷ "--hex" ∷ []) (5464 ∷ 0 ∷ 1 ∷ 0 ∷ 0 ∷ 0 ∷ 1 ∷ 0 ∷ 0 ∷ 1 ∷ []) "x"
    ∷ example ("modeline" ∷ "--of" ∷ "--wide" ∷ "25.175" ∷ "-" ∷ []) (5464 ∷ 0 ∷ 0 ∷ 0 ∷ 0 ∷ 0 ∷ 0 ∷ 1 ∷ 0 ∷ 0 ∷ []) "-"
    ∷ example ("bytes" ∷ "x" ∷ []) (5464 ∷ 0 ∷ 0 ∷ 0 ∷ 0 ∷ 0 ∷ 0 ∷ 0 ∷ 0 ∷ 1 ∷ []) "x"
    ∷ wrong [] "no command; 'sedgecoil help' lists them"
    (5464 ∷ 0 ∷ 0 ∷ 0 ∷ 0 ∷ 0 ∷ 0 ∷ 0 ∷ 0 ∷ 1 ∷ []) ""
    ∷ wrong ("repaly" ∷ "x" ∷ []) "no command 'repaly'; 'sedgecoil help' lists them"
    (5464 ∷ 0 ∷ 0 ∷ 0 ∷ 0 ∷ 0 ∷ 0 ∷ 0 ∷ 0 ∷ 1 ∷ []) ""
    ∷ wrong ("replay" ∷ "--wide" ∷ "x" ∷ []) "replay has no option '--wide'; 'sedgecoil replay --help' lists them"
    (5464 ∷ 0 ∷ 0 ∷ 0 ∷ 0 ∷ 0 ∷ 0 ∷ 0 ∷ 0 ∷ 0 ∷ []) ""
    ∷ wrong ("replay" ∷ "x" ∷ "--chip=5465" ∷ []) "--chip is 5462 or 5464, not '5465'"
    (5464 ∷ 0 ∷ 0 ∷ 0 ∷ 0 ∷ 0 ∷ 0 ∷ 0 ∷ 0 ∷ 0 ∷ []) "x"
    ∷ wrong ("clocks" ∷ "--hex=x" ∷ "y" ∷ []) "--hex takes no value after '='"
    (5464 ∷ 0 ∷ 0 ∷ 0 ∷ 0 ∷ 0 ∷ 0 ∷ 0 ∷ 0 ∷ 0 ∷ []) ""
    ∷ wrong ("snapshot" ∷ "x" ∷ "--since" ∷ []) "--since takes a value"
    (5464 ∷ 0 ∷ 0 ∷ 0 ∷ 0 ∷ 0 ∷ 0 ∷ 0 ∷ 0 ∷ 0 ∷ []) "x"
    ∷ wrong ("modeline" ∷ "a" ∷ "b" ∷ []) "modeline takes one FILE, and 'b' is one more"
    (5464 ∷ 0 ∷ 0 ∷ 0 ∷ 0 ∷ 0 ∷ 0 ∷ 0 ∷ 0 ∷ 0 ∷ []) "a"
    ∷ wrong ("modeline" ∷ "--wide" ∷ "--of" ∷ "a" ∷ []) "--wide and --of exclude each other"
    (5464 ∷ 0 ∷ 0 ∷ 0 ∷ 1 ∷ 0 ∷ 0 ∷ 0 ∷ 0 ∷ 0 ∷ []) ""
    ∷ wrong ("snapshot" ∷ "--since" ∷ "-" ∷ "-" ∷ []) "--since and FILE are both standard input"
    (5464 ∷ 0 ∷ 0 ∷ 0 ∷ 0 ∷ 0 ∷ 1 ∷ 0 ∷ 0 ∷ 0 ∷ []) "-"
    ∷ []

unfoldable mark : Bool → ℕ
mark b = cond b 1 0

unfoldable chip_mark : Chip → ℕ
chip_mark Gd5462 = 5462
chip_mark Gd5464 = 5464

unfoldable marks_of : List ℕ → Asked → List ℕ
marks_of words a =
    chip_mark a.chip ∷ mark a.plain ∷ mark a.hex ∷ mark a.quiet ∷ mark a.wide ∷ mark a.summary ∷ mark (is_some a.since)
    ∷ mark (is_some a.of) ∷ mark (is_some a.list) ∷ mark (is_text a words a.file) ∷ []

-- what was read before the wrong word
unfoldable asked_before : List ℕ → Refused → Asked
asked_before words r =
    asked_by words r.reading (unwrap_or r.command Bytes) (unwrap_or (taken_at r.reading Operand) (record { start = 0; end = 0 }))

unfoldable holds_of : Example → List ℕ → Result Asked Refused → Bool
unfolding ascii
holds_of e words (Ok a) = same (ascii e.said) [] && same (marks_of words a) e.marks && same (part words a.file) (ascii e.file)
holds_of e words (Err r) =
    same (messages.wrong_line r words) (ascii "sedgecoil: " ++ ascii e.said ++ newline) && same (marks_of words (asked_before words r)) e.marks
    && same (part words (asked_before words r).file) (ascii e.file)

unfoldable are_all_held : List Example → Bool
are_all_held [] = true
are_all_held (e ∷ es) = holds_of e (slice e.words) (asked (slice e.words)) && are_all_held es

all_hold : T (are_all_held examples)
unfolding examples are_all_held holds_of asked_before slice marks_of mark chip_mark same ascii newline capital escape escaped_byte escaped_text is_plain ends_in_hex is_option name_in name_span part word_at words_from command_name command_named commands named_among option_name option_named options_of value_count awaiting begun command_read counted filled number_of options_ended refused taken_at allowed alone cause_of commanded commanded_by equalled is_bad is_excluded is_neither next_waiting operand optioned optioned_by stepped unended value_taken valued waits_next worded worded_by is_bytes is_standard_input is_text asked asked_by both_standard chip_named asking.is_plain folded is_whole lack_of of_both read_words told told_by told_of shown messages.wrong_line messages.message_by messages.message messages.name_of messages.filled messages.piece_of
all_hold = tt
