-- An input that is a text for people, or the bytes themselves. Assumes nothing.
use Rattle.std.specs.Prelude.{ℕ, ◌<◌, ◌≡◌, Bool, ◌&&◌, ◌||◌, List, [], Option, Some, None, eqb, ltb, length, take}
use Rattle.std.specs.List.{list_all}
use Rattle.hex_text.specs.declared.source.Source.{Source}
use Rattle.hex_text.specs.declared.source.Source.TheVariants.{Bytes, Text}
use Rattle.hex_text.specs.declared.source.SourceOver.{SourceOver}
use Rattle.hex_text.specs.declared.source.TakenIn.{TakenIn}
use Rattle.hex_text.specs.Text.{between}
use Rattle.hex_text.specs.Machine.{after, told, ended, end_given}
use Rattle.hex_text.specs.Promises.{Put, LastPut, fitting}

-- 20h to 7Eh, tab, LF or CR
unfoldable pub printable : ℕ → Bool
printable b = between 0x20 0x7E b || eqb b 0x09 || eqb b 0x0A || eqb b 0x0D

abbrev pub all_printable : List ℕ → Bool
all_printable bytes = list_all printable bytes

-- there is a byte, and the first 64 are printable, or all where there are fewer
unfoldable pub looks_like_text : List ℕ → Bool
looks_like_text bytes = ltb 0 (length bytes) && all_printable (take 64 bytes)

-- the input after bytes of it, and what they give: by the text's rules, or as they are
unfoldable pub source_after : Source → List ℕ → Source
source_after Bytes bytes = Bytes
source_after (Text text) bytes = Text (after text bytes)

unfoldable pub source_told : Source → List ℕ → List ℕ
source_told Bytes bytes = bytes
source_told (Text text) bytes = told text bytes

unfoldable pub source_ended : Source → Source
source_ended Bytes = Bytes
source_ended (Text text) = Text (ended text)

unfoldable pub source_last : Source → List ℕ
source_last Bytes = []
source_last (Text text) = end_given text.stand

unfoldable pub SourceTaken : Source → List ℕ → List ℕ → List ℕ → ℕ → TakenIn → Type 0
SourceTaken before raw input₀ input held r =
    Put source_after source_told (fitting (length raw) input₀ held) before raw input₀ input held r.source r.used r.held

-- the end of bytes needs no room; the end of a text needs room for a byte, else nothing is done
unfoldable pub has_room : Source → List ℕ → ℕ → Type 0
has_room Bytes input held = Unit
has_room (Text text) input held = held < length input

unfoldable pub SourceEnded : Source → List ℕ → List ℕ → ℕ → Option SourceOver → Type 0
SourceEnded before input₀ input held None = (has_room before input₀ held → ⊥) × (input ≡ input₀)
SourceEnded before input₀ input held (Some over) =
    has_room before input₀ held × (over.source ≡ source_ended before) × LastPut (source_last before) input₀ input held over.held
