-- 01, 'the part of the trace not yet read': a trace and a position in it.
-- Assumes nothing.
use Rattle.std.specs.Prelude.{ℕ, ◌+◌, ◌*◌, cond, List, ltb, length, take, drop, Option, Some, None}
use Rattle.access.specs.declared.record.Item.{Item}
use Rattle.reader.specs.declared.reader.HandedBack.{HandedBack}
use Rattle.reader.specs.declared.reader.RanAt.{RanAt}
use Rattle.reader.specs.declared.reader.Reader.{Reader}
use Rattle.file.specs.declared.registers.File.{File}
use Rattle.trace.specs.Records.{item_of, items, item_count}
use Rattle.trace.specs.Run.{run}

-- what stands at a position of a trace: a record or the last fragment; nothing at its end
unfoldable pub next_at : List ℕ → ℕ → Option Item
next_at trace at = cond (ltb at (length trace)) (Some (item_of (take 8 (drop at trace)))) None

-- the position after it: as many bytes on as it has
unfoldable pub after_next : List ℕ → ℕ → ℕ
after_next trace at = at + length (take 8 (drop at trace))

-- the items that a reader has left
unfoldable pub left_of : Reader → List Item
left_of reader = items (item_count (drop reader.at reader.trace.now)) (drop reader.at reader.trace.now)

-- the position after so many of them
unfoldable pub after_many : ℕ → List ℕ → ℕ → ℕ
after_many count trace at = at + length (take (8 * count) (drop at trace))

-- a run over what is left from a position on: what it hands back, and the position after it
unfoldable pub ran_at : File → List ℕ → ℕ → List ℕ → RanAt
ran_at f trace at buffer =
    let left = run f (drop at trace) buffer in
    record { ran = record { answer = left.answer; file = left.file; count = left.count }; at = after_many left.count trace at }

-- the same of a reader, which comes back at the position after it
unfoldable pub handed_back : File → Reader → List ℕ → HandedBack
handed_back f reader buffer =
    let after = ran_at f reader.trace.now reader.at buffer in
    record { ran = after.ran; reader = record { trace = reader.trace; at = after.at } }
