-- What is told of a trace in two parts, and summed, of a part of at most one record, and of a record in a buffer. Assumes nothing.
use Prim.Native.Nat.{ℕ, suc, ◌+◌, ◌%◌, ◌≤◌}
use mathlib.Core.Bool.{Bool, true, false}
use mathlib.Core.List.{List, [], ◌∷◌, ◌++◌, append_assoc, append-nil}
use mathlib.Core.Path.{◌≡◌, refl, sym, ap, ◌∙◌}
use native.Mathlib.Nat.{add-suc, add-zero, suc-add, zero-add}
use native.Mathlib.Omega.{arith}
use lib.ListN.{length, take, drop, length-append}
use Rattle.io.specs.Counts.{IsPrefixLen}
use Rattle.file.specs.declared.answer.Answer.{Answer}
use Rattle.file.specs.declared.answer.Answer.TheVariants.{Done}
use Rattle.file.specs.declared.registers.File.{File}
use Rattle.file.specs.Answers.{code_of, refused}
use Rattle.access.specs.declared.record.Item.{Item}
use Rattle.access.specs.Access.{access_item}
use Rattle.trace.specs.Records.{item_count, item_of, items}
use Rattle.trace.specs.Run.{file_after}
use Rattle.trace.proofs.RunMore.{items-length}
use Rattle.text.specs.declared.placed.Placed.{Placed}
use Rattle.text.specs.Lent.{Lined, behind_by, placed_by}
use Rattle.replaying.specs.Replay.{after_part}
use Rattle.replaying.proofs.Pieces.{trace-cut}
use Rattle.shell.proofs.Bounds.{counts}
use Rattle.summing.specs.declared.summary.Summary.{Summary}
use Rattle.summing.specs.Summed.{taken_all, taken_in}
use Rattle.summing.specs.Told.{part_summed, part_told, record_summed, record_told, records_told}

-- items in two parts
records-in-parts : (sums : Bool) (number : ℕ) (f : File) (a b : List Item)
    → records_told sums number f (a ++ b) ≡ records_told sums number f a ++ records_told sums (number + length a) (file_after f a) b
unfolding records_told file_after
records-in-parts sums number f [] b = rw add-zero
records-in-parts sums number f (i ∷ a) b =
    ap (λ (text : List ℕ). record_told sums number f i ++ text)
    (records-in-parts sums (suc number) (access_item f i).file a b ∙ rw (suc-add, add-suc))
    ∙ sym (append_assoc (record_told sums number f i) (records_told sums (suc number) (access_item f i).file a) _)

-- a part of whole records, and what follows it
pub told-parts : (sums : Bool) (number : ℕ) (f : File) (part rest : List ℕ) → length part % 8 ≡ 0
    → part_told sums number f (part ++ rest) ≡ part_told sums number f part ++ part_told sums (number + item_count part) (after_part f part) rest
unfolding part_told after_part item_count
told-parts sums number f part rest whole =
    rw (trace-cut (item_count part) part rest (omega (arith, whole)), records-in-parts sums number f (items (item_count part) part) (items (item_count rest) rest), items-length)

taken-in-parts : (s : Summary) (f : File) (a b : List Item) → taken_all s f (a ++ b) ≡ taken_all (taken_all s f a) (file_after f a) b
unfolding taken_all file_after
taken-in-parts s f [] b = refl
taken-in-parts s f (i ∷ a) b = taken-in-parts (taken_in s f i) (access_item f i).file a b

pub summed-parts : (sums : Bool) (s : Summary) (f : File) (part rest : List ℕ) → length part % 8 ≡ 0
    → part_summed sums s f (part ++ rest) ≡ part_summed sums (part_summed sums s f part) (after_part f part) rest
unfolding part_summed after_part item_count
summed-parts true s f part rest whole =
    rw (trace-cut (item_count part) part rest (omega (arith, whole)))
    (taken-in-parts s f (items (item_count part) part) (items (item_count rest) rest))
summed-parts false s f part rest whole = refl

-- nothing is told of no part
pub none_told : (sums : Bool) (number : ℕ) (f : File) → part_told sums number f [] ≡ []
unfolding part_told item_count items records_told
none_told sums number f = refl

pub none-summed : (sums : Bool) (s : Summary) (f : File) → part_summed sums s f [] ≡ s
unfolding part_summed item_count items taken_all
none-summed true s f = refl
none-summed false s f = refl

-- no bytes are no record, and up to eight are one
module _ (part : List ℕ) where
  pub no_item : length part ≡ 0 → item_count part ≡ 0
  unfolding item_count
  no_item h = omega (arith, h)

  pub one-item : (length part ≡ 0 → ⊥) → length part ≤ 8 → item_count part ≡ 1
  unfolding item_count
  one-item some h = omega (arith, some, h)

  pub no-told : (sums : Bool) (number : ℕ) (f : File) → length part ≡ 0 → part_told sums number f part ≡ []
  unfolding part_told items records_told
  no-told sums number f h = rw (no_item h) refl

  pub no-after : (f : File) → length part ≡ 0 → after_part f part ≡ f
  unfolding after_part items file_after
  no-after f h = rw (no_item h) refl

  pub no-summed : (sums : Bool) (s : Summary) (f : File) → length part ≡ 0 → part_summed sums s f part ≡ s
  unfolding part_summed items taken_all
  no-summed true s f h = rw (no_item h) refl
  no-summed false s f h = refl

  pub one_told : (sums : Bool) (number : ℕ) (f : File) → (length part ≡ 0 → ⊥) → length part ≤ 8
      → part_told sums number f part ≡ record_told sums number f (item_of (take 8 part))
  unfolding part_told items records_told
  one_told sums number f some h = rw (one-item some h) (append-nil _)

  pub one-after : (f : File) → (length part ≡ 0 → ⊥) → length part ≤ 8 → after_part f part ≡ (access_item f (item_of (take 8 part))).file
  unfolding after_part items file_after
  one-after f some h = rw (one-item some h) refl

  pub one-summed : (sums : Bool) (s : Summary) (f : File) → (length part ≡ 0 → ⊥) → length part ≤ 8
      → part_summed sums s f part ≡ record_summed sums s f (item_of (take 8 part))
  unfolding part_summed record_summed items taken_all
  one-summed true s f some h = rw (one-item some h) refl
  one-summed false s f some h = refl

-- a text that is not refused stands from the start of its buffer on
module _ (answer : Answer) (text before after : List ℕ) (r : Placed) (done : answer ≡ Done 0) (lined : Lined answer 0 text before after r) where
  said : Lined (Done 0) 0 text before after r
  said = rw done at lined

  stop : r.end ≡ length text
  unfolding behind_by refused code_of
  stop = said.ended ∙ zero-add _

  stored : after ≡ text ++ drop r.end before
  unfolding placed_by behind_by refused code_of
  stored = said.bytes ∙ ap (λ (k : ℕ). text ++ drop k before) (sym said.ended)

  pub text-stands : IsPrefixLen r.end after × ((r.end ≡ length text) × (after ≡ text ++ drop r.end before))
  text-stands = (counts after r.end (omega (arith, stop, ap length stored ∙ length-append text (drop r.end before))), (stop, stored))
