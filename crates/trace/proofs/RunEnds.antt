-- Where a run ends: by places, by records, or with the fragment. Assumes nothing.
use Prim.Native.Nat.{ℕ, ◌+◌, ◌*◌, ◌/◌, ◌%◌, ◌≤◌, ◌<◌}
use mathlib.Core.Path.{◌≡◌, refl, ap, ◌∙◌}
use mathlib.Core.List.{List, ◌++◌}
use native.Mathlib.Nat.{min-eq_left, min-eq_right}
use native.Mathlib.Numerals.{add-one}
use native.Mathlib.Omega.{arith}
use lib.Dec.{T, leb, leb→le}
use lib.ListN.{length, take, drop, length-take, length-drop}
use Rattle.bits.proofs.Test.{is_true, by-test, passes}
use Rattle.file.specs.declared.answer.Answer.TheVariants.{Malformed}
use Rattle.file.specs.declared.registers.File.{File}
use Rattle.file.specs.Sound.{sound}
use Rattle.access.specs.declared.record.Item.{Item}
use Rattle.access.specs.declared.record.Item.TheVariants.{Fragment}
use Rattle.access.specs.Access.{access_item, record_in, reply_to}
use Rattle.trace.specs.Records.{record_of, item_of, item_count, items, reply_bytes}
use Rattle.trace.specs.Run.{file_after, replies, run_count}
use Rattle.trace.proofs.RunMore.{items_more, file-more, replies-more, run_sound}

module _ (trace buffer : List ℕ) where
  pub by-places : length buffer / 8 ≤ length trace / 8 → run_count trace buffer ≡ length buffer / 8
  unfolding run_count item_count
  by-places h = min-eq_right (omega (arith, h))

  pub by-records : length trace / 8 < length buffer / 8 → length trace % 8 ≡ 0 → run_count trace buffer ≡ length trace / 8
  unfolding run_count item_count
  by-records h even =
      let all : (length trace + 7) / 8 ≡ length trace / 8 = omega (arith, even) in
      rw all (min-eq_left (omega (arith, h)))

  pub by-fragment : length trace / 8 < length buffer / 8 → (length trace % 8 ≡ 0 → ⊥) → run_count trace buffer ≡ length trace / 8 + 1
  unfolding run_count item_count
  by-fragment h odd =
      let all : (length trace + 7) / 8 ≡ length trace / 8 + 1 = omega (arith, odd) in
      rw all (min-eq_left (omega (arith, h)))

module _ (f : File) (trace : List ℕ) (n : ℕ) (short : length trace < 8 * n + 8) where
  pub fragment-item : item_of (take 8 (drop (8 * n) trace)) ≡ Fragment (record_of (take 8 (drop (8 * n) trace)))
  unfolding item_of
  fragment-item =
      by-test (leb 8 (length (take 8 (drop (8 * n) trace)))) (λ e. absurd (no (leb→le 8 _ (passes _ e)))) (λ e. rw e)
    where
      no : 8 ≤ length (take 8 (drop (8 * n) trace)) → ⊥
      no h = omega (arith, simp (length-take, length-drop) at h, short)

  -- the fragment leaves the file
  pub fragment-file : file_after f (items (n + 1) trace) ≡ file_after f (items n trace)
  unfolding access_item
  fragment-file =
      ap (file_after f) (ap (λ (k : ℕ). items k trace) (add-one n) ∙ items_more n trace)
      ∙ file-more f (items n trace) (item_of (take 8 (drop (8 * n) trace)))
      ∙ ap (λ (i : Item). (access_item (file_after f (items n trace)) i).file) fragment-item

  -- and has code 2
  pub fragment-replies : T (sound f) → replies f (items (n + 1) trace)
      ≡ replies f (items n trace) ++ reply_bytes (reply_to (record_of (take 8 (drop (8 * n) trace))) Malformed)
  unfolding access_item record_in
  fragment-replies s =
      ap (replies f) (ap (λ (k : ℕ). items k trace) (add-one n) ∙ items_more n trace)
      ∙ replies-more f (items n trace) (item_of (take 8 (drop (8 * n) trace)))
      ∙ ap (λ (i : Item). replies f (items n trace) ++ reply_bytes (reply_to (record_in i) (access_item (file_after f (items n trace)) i).answer)) fragment-item
      ∙ rw (is_true (sound (file_after f (items n trace))) (run_sound f (items n trace) s)) refl
