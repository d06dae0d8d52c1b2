-- What a FILE's name says of it.
-- Assumes nothing.
use Rattle.std.specs.Prelude.{ℕ, Bool, true, false, ◌||◌, List}
use Rattle.file.specs.Readers.{ascii, same}
use Rattle.options.specs.declared.types.Asked.{Asked}
use Rattle.options.specs.declared.types.Command.{Command}
use Rattle.options.specs.declared.types.Command.TheVariants.{Replay, Snapshot, Geometry, Modeline, Clocks, Portable, Explain, Bytes}
use Rattle.options.specs.declared.types.Span.{Span}
use Rattle.options.specs.Words.{ends_in_hex, part}

-- one dash
unfoldable pub is_standard_input : List ℕ → Span → Bool
unfolding ascii
is_standard_input words s = same (part words s) (ascii "-")

unfoldable pub is_bytes : Command → Bool
is_bytes Replay = false
is_bytes Snapshot = false
is_bytes Geometry = false
is_bytes Modeline = false
is_bytes Clocks = false
is_bytes Portable = false
is_bytes Explain = false
is_bytes Bytes = true

-- text for people: by --hex, by the command, or by a name that ends in .hex
unfoldable pub is_text : Asked → List ℕ → Span → Bool
is_text asked words s = asked.hex || is_bytes asked.command || ends_in_hex (part words s)
