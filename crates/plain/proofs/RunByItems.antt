-- What the loop of a run holds after each record, and that one more keeps it. Assumes nothing.
use Prim.Native.Nat.{ℕ, ◌+◌, ◌*◌, ◌-◌, ◌/◌, ◌≤◌, ◌<◌, min}
use mathlib.Core.Path.{◌≡◌, refl, sym, ap, ap₂, ◌∙◌}
use mathlib.Core.List.{List, ◌∷◌, [], ◌++◌}
use native.Mathlib.Numerals.{add-one}
use native.Mathlib.Omega.{arith}
use lib.Dec.{leb}
use lib.ListN.{length, take, drop, length-append, length-drop}
use Rattle.bits.proofs.Test.{by-test}
use Rattle.file.specs.declared.registers.File.{File}
use Rattle.access.specs.declared.record.Item.{Item}
use Rattle.access.specs.Access.{access_item, record_in, reply_to}
use Rattle.trace.specs.Records.{record_of, item_of, items, reply_bytes}
use Rattle.trace.specs.Run.{file_after, replies}
use Rattle.trace.proofs.RunLoop.{next-said}
use Rattle.trace.proofs.RunMore.{items_more, file-more, replies-more, replies-length, items-length}

-- the record of what stands in a trace, whole or not
pub record-in : (bytes : List ℕ) → record_of bytes ≡ record_in (item_of bytes)
unfolding item_of record_in
record-in bytes = by-test (leb 8 (length bytes)) (λ e. rw e refl) (λ e. rw e refl)

-- a record that there is, and a place for its reply
pub has-record : (n count trace buffer : ℕ) → n < count → count ≡ min ((trace + 7) / 8) (buffer / 8) → 8 * n < trace
has-record n count trace buffer h e = omega (arith, h, e)

pub has-place : (n count trace buffer : ℕ) → n < count → count ≡ min ((trace + 7) / 8) (buffer / 8) → 8 * n + 8 ≤ buffer
has-place n count trace buffer h e = omega (arith, h, e)

module _ (f : File) (trace before : List ℕ) where
  -- after n records: the file then, and their replies in the buffer
  pub record Held (count : ℕ) (buffer : List ℕ) (current : File) (n : ℕ) : Type 0 where
    pub reached : n ≤ count
    pub file : current ≡ file_after f (items n trace)
    pub said : buffer ≡ replies f (items n trace) ++ drop (8 * n) before

  module _ {count : ℕ} {buffer : List ℕ} {file : File} {n : ℕ} (h : Held count buffer file n) where
    -- the buffer keeps its length
    pub buffer-long : 8 * n ≤ length before → length buffer ≡ length before
    buffer-long room =
        ap length h.said
        ∙ length-append (replies f (items n trace)) (drop (8 * n) before)
        ∙ ap₂ ◌+◌ (replies-length f (items n trace) ∙ ap (λ (k : ℕ). 8 * k) (items-length n trace)) (length-drop (8 * n) before)
        ∙ rest room
      where
        rest : 8 * n ≤ length before → 8 * n + (length before - 8 * n) ≡ length before
        rest room = omega (arith, room)

    abbrev Next : Item
    Next = item_of (take 8 (drop (8 * n) trace))

    one_more : items (n + 1) trace ≡ items n trace ++ Next ∷ []
    one_more = ap (λ (k : ℕ). items k trace) (add-one n) ∙ items_more n trace

    -- one record more
    pub held-step : n < count → (after : File) (filled : List ℕ)
        → after ≡ (access_item file Next).file
        → filled ≡ take (8 * n) buffer ++ reply_bytes (reply_to (record_in Next) (access_item file Next).answer) ++ drop (8 * n + 8) buffer
        → Held count filled after (n + 1)
    held-step more after filled same fills =
        record {
          reached = omega (arith, more);
          file = same ∙ ap (λ (g : File). (access_item g Next).file) h.file ∙ sym (ap (file_after f) one_more ∙ file-more f (items n trace) Next);
          said =
              fills
              ∙ next-said f trace before n buffer _ h.said
              (ap (replies f) one_more ∙ replies-more f (items n trace) Next
              ∙ ap (λ (g : File). replies f (items n trace) ++ reply_bytes (reply_to (record_in Next) (access_item g Next).answer)) (sym h.file));
        }
