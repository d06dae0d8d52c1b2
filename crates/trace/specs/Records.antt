-- 01, 'Accesses and replies': records and replies as bytes.
-- Assumes nothing.
use Rattle.std.specs.Prelude.{ℕ, zero, suc, ◌+◌, ◌*◌, ◌/◌, ◌%◌, cond, List, [], ◌∷◌, leb, length, get_or, take, drop}
use Rattle.access.specs.declared.record.Record.{Record}
use Rattle.access.specs.declared.record.Reply.{Reply}
use Rattle.access.specs.declared.record.Item.{Item}
use Rattle.access.specs.declared.record.Item.TheVariants.{Whole, Fragment}

-- the number of two and of four bytes, little-endian, from a place of a list on; a missing byte counts as zero
unfoldable pub two : List ℕ → ℕ → ℕ
two bytes at = get_or bytes at 0 + 256 * get_or bytes (at + 1) 0

unfoldable pub four : List ℕ → ℕ → ℕ
four bytes at = get_or bytes at 0 + 256 * get_or bytes (at + 1) 0 + 65536 * get_or bytes (at + 2) 0 + 16777216 * get_or bytes (at + 3) 0

-- 'byte 0 kind, byte 1 width in bytes, bytes 2-3 address, bytes 4-7 value'
unfoldable pub record_of : List ℕ → Record
record_of bytes = record { kind = get_or bytes 0 0; width = get_or bytes 1 0; address = two bytes 2; value = four bytes 4 }

-- a record as its 8 bytes
unfoldable pub bytes_of : Record → List ℕ
bytes_of r =
    r.kind
    ∷ r.width
    ∷ r.address % 256
    ∷ r.address / 256
    ∷ r.value % 256
    ∷ r.value / 256 % 256
    ∷ r.value / 65536 % 256
    ∷ r.value / 16777216
    ∷ []

-- 'A reply is 8 bytes: code, kind and address copied (bytes 1 to 3), value in bytes 4-5, then two zeros.'
unfoldable pub reply_bytes : Reply → List ℕ
reply_bytes r =
    r.code
    ∷ r.kind
    ∷ r.address % 256
    ∷ r.address / 256
    ∷ r.value % 256
    ∷ r.value / 256
    ∷ 0
    ∷ 0
    ∷ []

-- 'A trace is records of 8 bytes, no header': what the first of them, or the last fragment, is
unfoldable pub item_of : List ℕ → Item
item_of bytes = cond (leb 8 (length bytes)) (Whole (record_of bytes)) (Fragment (record_of bytes))

-- 'a fragment counts as one record'
unfoldable pub item_count : List ℕ → ℕ
item_count trace = (length trace + 7) / 8

-- the first so many items of a trace
unfoldable pub items : ℕ → List ℕ → List Item
items zero trace = []
items (suc n) trace = item_of (take 8 trace) ∷ items n (drop 8 trace)
