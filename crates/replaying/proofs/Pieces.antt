-- A trace in pieces: the lines of its replies are the lines of its records, and pieces of whole records replay as the whole does. Assumes nothing.
use Prim.Native.Nat.{ℕ, zero, suc, ◌+◌, ◌*◌, ◌/◌, ◌%◌}
use mathlib.Core.Path.{◌≡◌, refl, sym, ap, ap₂, ◌∙◌}
use mathlib.Core.List.{List, [], ◌∷◌, ◌++◌, append_assoc}
use native.Mathlib.Nat.{add-zero, zero-add, suc-add, add-suc}
use native.Mathlib.Omega.{arith}
use lib.ListN.{length, take, drop, length-append, length-drop}
use lib.Seq.{take-append-le, drop-append-le}
use Rattle.access.specs.declared.record.Item.{Item}
use Rattle.access.specs.Access.{access_item, reply_to}
use Rattle.trace.specs.Records.{item_count, item_of, items, reply_bytes, two}
use Rattle.trace.specs.Run.{file_after, replies}
use Rattle.trace.proofs.RunInPieces.{file-in-parts}
use Rattle.trace.proofs.RunMore.{items-length}
use Rattle.file.specs.declared.chip.Chip.{Chip}
use Rattle.file.specs.declared.registers.File.{File}
use Rattle.file.specs.Answers.{code_of, value_of}
use Rattle.file.specs.File.{power_on}
use Rattle.replaying.specs.Replay.{after_part, part_lines, record_line, record_lines, replayed, replayed_from}
use Rattle.text.specs.Text.{line_of, reply_lines}

two_bytes : (value : ℕ) → value % 256 + 256 * (value / 256) ≡ value
two_bytes value = omega arith

-- the lines of the replies of a run are those of its items, whatever stands behind the replies
pub lines-of-replies : (number : ℕ) (f : File) (is : List Item) (rest : List ℕ)
    → reply_lines (length is) number (replies f is ++ rest) ≡ record_lines number f is
unfolding reply_lines record_lines record_line replies reply_bytes reply_to two
lines-of-replies number f [] rest = refl
lines-of-replies number f (i ∷ is) rest =
    ap₂ (λ (value : ℕ) (lines : List ℕ). line_of number (code_of (access_item f i).answer) value ++ lines)
    (two_bytes (value_of (access_item f i).answer))
    (lines-of-replies (suc number) (access_item f i).file is rest)

-- the same for the first so many items of a trace
pub lines-of-run : (n number : ℕ) (f : File) (trace rest : List ℕ)
    → reply_lines n number (replies f (items n trace) ++ rest) ≡ record_lines number f (items n trace)
lines-of-run n number f trace rest =
    ap (λ (count : ℕ). reply_lines count number (replies f (items n trace) ++ rest)) (sym (items-length n trace))
    ∙ lines-of-replies number f (items n trace) rest

-- items in two parts
pub lines-in-parts : (number : ℕ) (f : File) (a b : List Item)
    → record_lines number f (a ++ b) ≡ record_lines number f a ++ record_lines (number + length a) (file_after f a) b
unfolding record_lines file_after
lines-in-parts number f [] b = rw add-zero
lines-in-parts number f (i ∷ a) b =
    ap (λ (lines : List ℕ). record_line number (access_item f i).answer ++ lines)
    (lines-in-parts (suc number) (access_item f i).file a b ∙ rw (suc-add, add-suc))
    ∙ sym (append_assoc (record_line number (access_item f i).answer) (record_lines (suc number) (access_item f i).file a) _)

-- a trace cut behind so many whole records
items-cut : (n m : ℕ) (a b : List ℕ) → length a ≡ 8 * n → items (n + m) (a ++ b) ≡ items n a ++ items m b
unfolding items
items-cut zero m [] b h = rw zero-add
items-cut zero m (x ∷ a) b h = absurd (omega (arith, h))
items-cut (suc n) m a b h =
    rw (suc-add, take-append-le 8 a b (omega (arith, h)), drop-append-le 8 a b (omega (arith, h)))
    (ap (λ (is : List Item). item_of (take 8 a) ∷ is) (items-cut n m (drop 8 a) b (rw length-drop (omega (arith, h)))))

module _ (n : ℕ) (a b : List ℕ) (whole : length a ≡ 8 * n) where
  count_cut : item_count (a ++ b) ≡ n + item_count b
  unfolding item_count
  count_cut = rw length-append (omega (arith, whole))

  pub trace-cut : items (item_count (a ++ b)) (a ++ b) ≡ items n a ++ items (item_count b) b
  trace-cut = rw count_cut (items-cut n (item_count b) a b whole)

  -- what is printed of the whole is the lines of the first piece's records, and then what is printed of the second from the file that the first left
  pub replayed-in-pieces : (number : ℕ) (f : File)
      → replayed_from number f (a ++ b) ≡ record_lines number f (items n a) ++ replayed_from (number + n) (file_after f (items n a)) b
  unfolding replayed_from
  replayed-in-pieces number f =
      rw (trace-cut, lines-in-parts number f (items n a) (items (item_count b) b), file-in-parts, items-length, append_assoc)

-- a trace in two pieces from power-on
pub replayed-cut : (chip : Chip) (n : ℕ) (a b : List ℕ) → length a ≡ 8 * n
    → replayed chip (a ++ b) ≡ record_lines 0 (power_on chip) (items n a) ++ replayed_from n (file_after (power_on chip) (items n a)) b
unfolding replayed
replayed-cut chip n a b whole = replayed-in-pieces n a b whole 0 (power_on chip) ∙ rw zero-add

-- a part of whole records, and what follows it: the count, the file and the lines
module _ (part rest : List ℕ) (whole : length part % 8 ≡ 0) where
  pub parts-count : item_count (part ++ rest) ≡ item_count part + item_count rest
  unfolding item_count
  parts-count = rw length-append (omega (arith, whole))

  all-bytes : length part ≡ 8 * item_count part
  unfolding item_count
  all-bytes = omega (arith, whole)

  pub file-parts : (f : File) → after_part f (part ++ rest) ≡ after_part (after_part f part) rest
  unfolding after_part
  file-parts f =
      ap (file_after f) (trace-cut (item_count part) part rest all-bytes)
      ∙ file-in-parts f (items (item_count part) part) (items (item_count rest) rest)

  pub lines-parts : (number : ℕ) (f : File)
      → part_lines number f (part ++ rest) ≡ part_lines number f part ++ part_lines (number + item_count part) (after_part f part) rest
  unfolding part_lines after_part
  lines-parts number f =
      rw (trace-cut (item_count part) part rest all-bytes, lines-in-parts number f (items (item_count part) part) (items (item_count rest) rest), items-length)
