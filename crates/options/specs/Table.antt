-- The commands and their options: one table.
-- Assumes nothing.
use Rattle.std.specs.Prelude.{ℕ, List, [], ◌∷◌, Option}
use Rattle.std.specs.List.{find}
use Rattle.file.specs.Readers.{ascii, same}
use Rattle.options.specs.declared.types.Command.{Command}
use Rattle.options.specs.declared.types.Command.TheVariants.{Replay, Snapshot, Geometry, Modeline, Clocks, Portable, Explain, Bytes}
use Rattle.options.specs.declared.types.Slot.{Slot}
use Rattle.options.specs.declared.types.Slot.TheVariants.{Hex, Quiet, Chip, Engine, Since, Wide, Write, Summary, Of, Mhz, Operand}

unfoldable pub commands : List Command
commands = Replay ∷ Snapshot ∷ Geometry ∷ Modeline ∷ Clocks ∷ Portable ∷ Explain ∷ Bytes ∷ []

unfoldable pub command_name : Command → List ℕ
unfolding ascii
command_name Replay = ascii "replay"
command_name Snapshot = ascii "snapshot"
command_name Geometry = ascii "geometry"
command_name Modeline = ascii "modeline"
command_name Clocks = ascii "clocks"
command_name Portable = ascii "portable"
command_name Explain = ascii "explain"
command_name Bytes = ascii "bytes"

-- each command takes one FILE, and these options
unfoldable pub options_of : Command → List Slot
options_of Replay = Hex ∷ Quiet ∷ Chip ∷ Engine ∷ []
options_of Snapshot = Hex ∷ Chip ∷ Engine ∷ Since ∷ []
options_of Geometry = Hex ∷ Chip ∷ Engine ∷ []
options_of Modeline = Hex ∷ Wide ∷ Of ∷ []
options_of Clocks = Hex ∷ []
options_of Portable = Hex ∷ Write ∷ []
options_of Explain = Hex ∷ Quiet ∷ Summary ∷ Chip ∷ []
options_of Bytes = Hex ∷ []

-- an option's name; the second value of --of and FILE have none
unfoldable pub option_name : Slot → List ℕ
unfolding ascii
option_name Hex = ascii "--hex"
option_name Quiet = ascii "--quiet"
option_name Chip = ascii "--chip"
option_name Engine = ascii "--engine"
option_name Since = ascii "--since"
option_name Wide = ascii "--wide"
option_name Write = ascii "--write"
option_name Summary = ascii "--summary"
option_name Of = ascii "--of"
option_name Mhz = []
option_name Operand = []

-- how many words an option takes as its values
unfoldable pub value_count : Slot → ℕ
value_count Hex = 0
value_count Quiet = 0
value_count Chip = 1
value_count Engine = 1
value_count Since = 1
value_count Wide = 0
value_count Write = 1
value_count Summary = 0
value_count Of = 2
value_count Mhz = 0
value_count Operand = 0

-- the first of some things that a word is the name of
unfoldable pub named_among : {A : Type 0} → (A → List ℕ) → List A → List ℕ → Option A
named_among name xs word = find (λ x. same word (name x)) xs

-- the command that a word names
unfoldable pub command_named : List ℕ → Option Command
command_named word = named_among command_name commands word

-- the option of a command that a word names
unfoldable pub option_named : Command → List ℕ → Option Slot
option_named command word = named_among option_name (options_of command) word
