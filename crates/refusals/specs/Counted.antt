-- How many records of a trace answered each code.
-- Assumes nothing.
use Rattle.std.specs.Prelude.{ℕ, zero, suc, ◌+◌, ◌/◌, cond, List, [], ◌∷◌, eqb, ltb, length, get_or, set, drop, replicate}
use Rattle.file.specs.declared.registers.File.{File}
use Rattle.file.specs.Answers.{code_of}
use Rattle.access.specs.declared.record.Item.{Item}
use Rattle.access.specs.Access.{access_item}
use Rattle.trace.specs.Records.{items, item_count}
use Rattle.refusals.specs.declared.codes.Refusals.{Refusals}

-- the codes from 0 to 22
abbrev pub code_count : ℕ
code_count = 23

-- the largest count
abbrev pub most_count : ℕ
most_count = 0xFFFFFFFFFFFFFFFF

-- before the first record
unfoldable pub none_counted : Refusals
none_counted = record { counts = replicate code_count 0 }

-- one more; the largest stays
unfoldable pub more : ℕ → ℕ
more n = cond (ltb n most_count) (n + 1) n

-- one more at a code; a code above 22 counts nothing
unfoldable pub counted_at : List ℕ → ℕ → List ℕ
counted_at counts code = cond (ltb code code_count) (set counts code (more (get_or counts code 0))) counts

unfoldable pub counting_of : Refusals → ℕ → Refusals
counting_of before code = record { counts = counted_at before.counts code }

-- the codes of so many replies of 8 bytes, each in byte 0
unfoldable pub codes_counted : ℕ → List ℕ → List ℕ → List ℕ
codes_counted zero counts replies = counts
codes_counted (suc count) counts replies = codes_counted count (counted_at counts (get_or replies 0 0)) (drop 8 replies)

-- the codes of all replies that are whole
unfoldable pub replies_counted : Refusals → List ℕ → Refusals
replies_counted before replies = record { counts = codes_counted (length replies / 8) before.counts replies }

-- the codes of the answers of a trace's items, from a file on
unfoldable pub counted_items : Refusals → File → List Item → Refusals
counted_items before f [] = before
counted_items before f (i ∷ is) = counted_items (counting_of before (code_of (access_item f i).answer)) (access_item f i).file is

-- the codes of a part of a trace
unfoldable pub counted_part : Refusals → File → List ℕ → Refusals
counted_part before f part = counted_items before f (items (item_count part) part)

-- without a table: how many of the items answered a code
unfoldable pub answered : ℕ → File → List Item → ℕ
answered code f [] = 0
answered code f (i ∷ is) = cond (eqb (code_of (access_item f i).answer) code) 1 0 + answered code (access_item f i).file is
