-- What the functions promise that put bytes into a lent buffer from a place on. Assumes nothing.
use Rattle.std.specs.Prelude.{ℕ, ◌+◌, ◌-◌, min, Bool, cond, List, [], ◌++◌, ◌≡◌, ◌≤◌, ◌<◌, Option, Some, None, length, take, drop}
use Rattle.std.proofs.lemmas.List.Edits.{sets}
use Rattle.hex_text.specs.declared.state.HexText.{HexText}
use Rattle.hex_text.specs.declared.state.Place.{Place}
use Rattle.hex_text.specs.declared.reading.TextOver.{TextOver}
use Rattle.hex_text.specs.declared.reading.TextRead.{TextRead}
use Rattle.hex_text.specs.Text.{Meaning, meaning}
use Rattle.hex_text.specs.Machine.{after, told, ended, end_given, held, is_bad, bad_place}

-- how many of so many bytes have room in a buffer from a place on
unfoldable pub fitting : ℕ → List ℕ → ℕ → ℕ
fitting count buffer at = min count (length buffer - at)

-- bytes that were stored from a place on, and the place after them
pub record Stored (bytes buffer₀ buffer : List ℕ) (at end : ℕ) : Type 0 where
  pub stored : buffer ≡ sets buffer₀ at bytes
  pub ended : end ≡ at + length bytes

-- as many bytes as have room, stored as they are
pub record BytesPut (bytes buffer₀ buffer : List ℕ) (at used : ℕ) : Type 0 where
  pub taken : used ≡ fitting (length bytes) buffer₀ at
  pub stored : buffer ≡ sets buffer₀ at (take used bytes)

-- A part of which so many bytes were taken: `after` is the job after some bytes, `told` what they give, both by the job before. It says how much of the part
-- was used, the job then, where the bytes that were put end, and every byte of the buffer.
pub record Put {Job : Type 0} (after : Job → List ℕ → Job) (told : Job → List ℕ → List ℕ) (count : ℕ) (before : Job) (part buffer₀ buffer : List ℕ) (at : ℕ)
    (job : Job) (used end : ℕ) : Type 0 where
  pub taken : used ≡ count
  pub become : job ≡ after before (take count part)
  pub ended : end ≡ at + length (told before (take count part))
  pub stored : buffer ≡ take at buffer₀ ++ told before (take count part) ++ drop end buffer₀

-- The end of an input that has room: it gives `last`, after which the bytes that were put end, and every byte of the buffer.
pub record LastPut (last buffer₀ buffer : List ℕ) (at end : ℕ) : Type 0 where
  pub ended : end ≡ at + length last
  pub stored : buffer ≡ take at buffer₀ ++ last ++ drop end buffer₀

-- the whole of a part that has room
pub record PartRead (before : HexText) (part buffer₀ buffer : List ℕ) (at : ℕ) (r : TextRead) : Type 0 where
  pub taken : r.used ≡ length part
  pub become : r.text ≡ after before part
  pub put : Stored (told before part) buffer₀ buffer at r.end

-- as many bytes of a text as have room
unfoldable pub TextPut : HexText → List ℕ → List ℕ → List ℕ → ℕ → TextRead → Type 0
TextPut before text buffer₀ buffer at r =
    Put after told (fitting (length text) buffer₀ at) before text buffer₀ buffer at r.text r.used r.end

-- the end of a text, which needs room for a byte; else nothing is done
unfoldable pub TextEnded : HexText → List ℕ → List ℕ → ℕ → Option TextOver → Type 0
TextEnded before buffer₀ buffer at None = (length buffer₀ ≤ at) × (buffer ≡ buffer₀)
TextEnded before buffer₀ buffer at (Some over) =
    (at < length buffer₀) × (over.text ≡ ended before) × LastPut (end_given before.stand) buffer₀ buffer at over.end

-- the place of the first bad word, as 64 bits hold it
unfoldable pub place_of : Meaning → Option Place
place_of m = cond m.bad (Some (record { line = held m.line; column = held m.column })) None

-- What was put of a text, and the state at its end, tell what the text means: its bytes, and whether it is bad and at which line and column, as 64 bits
-- hold them.
pub record TellsMeaning (text put : List ℕ) (over : HexText) : Type 0 where
  pub bytes : put ≡ (meaning text).bytes
  pub bad : is_bad over.stand ≡ (meaning text).bad
  pub place : bad_place over ≡ place_of (meaning text)
