-- What is told of a trace in two parts, summed and counted, and of a part of at most one record. Assumes nothing.
use Prim.Native.Nat.{ℕ, suc, ◌+◌, ◌%◌, ◌≤◌}
use mathlib.Core.Bool.{Bool, true, false}
use mathlib.Core.List.{List, [], ◌∷◌, ◌++◌, append_assoc, append-nil}
use mathlib.Core.Path.{◌≡◌, refl, sym, ap, ◌∙◌}
use native.Mathlib.Nat.{add-suc, add-zero, suc-add}
use native.Mathlib.Omega.{arith}
use lib.ListN.{length, take}
use Rattle.file.specs.declared.registers.File.{File}
use Rattle.file.specs.Answers.{code_of}
use Rattle.access.specs.declared.record.Item.{Item}
use Rattle.access.specs.Access.{access_item}
use Rattle.trace.specs.Records.{item_count, item_of, items}
use Rattle.trace.specs.Run.{file_after}
use Rattle.trace.proofs.RunMore.{items-length}
use Rattle.replaying.specs.Replay.{after_part}
use Rattle.replaying.proofs.Pieces.{trace-cut}
use Rattle.refusals.specs.declared.codes.Refusals.{Refusals}
use Rattle.refusals.specs.Counted.{counted_items, counted_part, counting_of}
use Rattle.refusals.proofs.RepliesCounted.{counted-in-parts}
use Rattle.summing.specs.declared.summary.Summary.{Summary}
use Rattle.summing.specs.Summed.{taken_all, taken_in}
use Rattle.summing.specs.Told.{part_summed, part_told, record_summed, record_told, records_told}

-- items in two parts
records-in-parts : (sums : Bool) (number : ℕ) (f : File) (a b : List Item)
    → records_told sums number f (a ++ b) ≡ records_told sums number f a ++ records_told sums (number + length a) (file_after f a) b
unfolding records_told file_after
records-in-parts sums number f [] b = rw add-zero
records-in-parts sums number f (i ∷ a) b =
    ap (λ (text : List ℕ). record_told sums number f i ++ text)
    (records-in-parts sums (suc number) (access_item f i).file a b ∙ rw (suc-add, add-suc))
    ∙ sym (append_assoc (record_told sums number f i) (records_told sums (suc number) (access_item f i).file a) _)

-- a part of whole records, and what follows it
pub told-parts : (sums : Bool) (number : ℕ) (f : File) (part rest : List ℕ) → length part % 8 ≡ 0
    → part_told sums number f (part ++ rest) ≡ part_told sums number f part ++ part_told sums (number + item_count part) (after_part f part) rest
unfolding part_told after_part item_count
told-parts sums number f part rest whole =
    let cut = trace-cut (item_count part) part rest (omega (arith, whole)) in
    rw (cut, records-in-parts sums number f (items (item_count part) part) (items (item_count rest) rest), items-length)

taken-in-parts : (s : Summary) (f : File) (a b : List Item) → taken_all s f (a ++ b) ≡ taken_all (taken_all s f a) (file_after f a) b
unfolding taken_all file_after
taken-in-parts s f [] b = refl
taken-in-parts s f (i ∷ a) b = taken-in-parts (taken_in s f i) (access_item f i).file a b

pub summed-parts : (sums : Bool) (s : Summary) (f : File) (part rest : List ℕ) → length part % 8 ≡ 0
    → part_summed sums s f (part ++ rest) ≡ part_summed sums (part_summed sums s f part) (after_part f part) rest
unfolding part_summed after_part item_count
summed-parts true s f part rest whole =
    rw (trace-cut (item_count part) part rest (omega (arith, whole)))
    (taken-in-parts s f (items (item_count part) part) (items (item_count rest) rest))
summed-parts false s f part rest whole = refl

pub counted-parts : (r : Refusals) (f : File) (part rest : List ℕ) → length part % 8 ≡ 0
    → counted_part r f (part ++ rest) ≡ counted_part (counted_part r f part) (after_part f part) rest
unfolding counted_part after_part item_count
counted-parts r f part rest whole =
    rw (trace-cut (item_count part) part rest (omega (arith, whole)))
    (counted-in-parts r f (items (item_count part) part) (items (item_count rest) rest))

-- nothing is told of no part
pub none_told : (sums : Bool) (number : ℕ) (f : File) → part_told sums number f [] ≡ []
unfolding part_told item_count items records_told
none_told sums number f = refl

pub none-summed : (sums : Bool) (s : Summary) (f : File) → part_summed sums s f [] ≡ s
unfolding part_summed item_count items taken_all
none-summed true s f = refl
none-summed false s f = refl

pub none-counted : (r : Refusals) (f : File) → counted_part r f [] ≡ r
unfolding counted_part item_count items counted_items
none-counted r f = refl

-- up to eight bytes are one record
module _ (part : List ℕ) where
  pub one-item : (length part ≡ 0 → ⊥) → length part ≤ 8 → item_count part ≡ 1
  unfolding item_count
  one-item some h = omega (arith, some, h)

  pub one_told : (sums : Bool) (number : ℕ) (f : File) → (length part ≡ 0 → ⊥) → length part ≤ 8
      → part_told sums number f part ≡ record_told sums number f (item_of (take 8 part))
  unfolding part_told items records_told
  one_told sums number f some h = rw (one-item some h) (append-nil _)

  pub one-after : (f : File) → (length part ≡ 0 → ⊥) → length part ≤ 8 → after_part f part ≡ (access_item f (item_of (take 8 part))).file
  unfolding after_part items file_after
  one-after f some h = rw (one-item some h) refl

  pub one-summed : (sums : Bool) (s : Summary) (f : File) → (length part ≡ 0 → ⊥) → length part ≤ 8
      → part_summed sums s f part ≡ record_summed sums s f (item_of (take 8 part))
  unfolding part_summed record_summed items taken_all
  one-summed true s f some h = rw (one-item some h) refl
  one-summed false s f some h = refl

  pub one-counted : (r : Refusals) (f : File) → (length part ≡ 0 → ⊥) → length part ≤ 8
      → counted_part r f part ≡ counting_of r (code_of (access_item f (item_of (take 8 part))).answer)
  unfolding counted_part items counted_items
  one-counted r f some h = rw (one-item some h) refl
