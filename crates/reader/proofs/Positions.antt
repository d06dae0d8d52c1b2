-- Positions of a trace: what the functions on a slice and a number compute is what the definitions say. Assumes nothing.
use Prim.Native.Nat.{ℕ, zero, suc, ◌<◌, ◌≤◌, ◌+◌, ◌*◌, ◌-◌, min}
use mathlib.Core.Path.{◌≡◌, refl, sym, ap, ◌∙◌}
use mathlib.Core.List.{List, [], ◌∷◌}
use native.Mathlib.Omega.{arith}
use lib.ListN.{length, take, drop, length-take, length-drop, drop_of_length-le}
use lib.Seq.{drop-drop}
use borrow.Author.Tests.{lt-ltb, le-ltb}
use Rattle.std.specs.Prelude.{Option, Some, None}
use Rattle.access.specs.declared.record.Item.{Item}
use Rattle.bits.proofs.Test.{by-test}
use Rattle.file.specs.declared.registers.File.{File}
use Rattle.file.specs.Sound.{sound}
use Rattle.reader.specs.declared.reader.RanAt.{RanAt}
use Rattle.trace.specs.declared.running.Ran.{Ran}
use Rattle.trace.specs.Records.{item_of}
use Rattle.trace.specs.Run.{RunLeft as Left, ran, run}
use Rattle.trace.proofs.RecordBytes.{part_left}
use Rattle.reader.specs.Reader.{next_at, after_next, after_many, ran_at}

-- what is left from a position on, where nothing is
pub nothing_left : (xs : List ℕ) (at : ℕ) → length xs ≤ at → take (length xs - length xs) (drop (length xs) xs) ≡ drop at xs
nothing_left xs at h = part_left xs (length xs) ∙ drop_of_length-le xs {i = length xs} (omega arith) ∙ sym (drop_of_length-le xs {i = at} h)

-- what stands next
pub next-read : (xs : List ℕ) (at : ℕ) (r : Item) → at < length xs → r ≡ item_of (take 8 (take (length xs - at) (drop at xs))) → Some r ≡ next_at xs at
unfolding next_at
next-read xs at r h e = rw (lt-ltb at (length xs) h) (ap {B = Option Item} (λ (i : Item). Some i) (e ∙ ap (λ (ys : List ℕ). item_of (take 8 ys)) (part_left xs at)))

pub end_read : (xs : List ℕ) (at : ℕ) → length xs ≤ at → None ≡ next_at xs at
unfolding next_at
end_read xs at h = rw (le-ltb at (length xs) h) refl

-- the next position, by the length of the trace
pub after_is : (trace : List ℕ) (at : ℕ) → after_next trace at ≡ at + min 8 (length trace - at)
unfolding after_next
after_is trace at = ap (λ (n : ℕ). at + n) (length-take 8 (drop at trace) ∙ ap (min 8) (length-drop at trace))

-- the same past so many of them
pub many-after : (trace left : List ℕ) (at count n : ℕ) → left ≡ drop at trace → n ≡ min (8 * count) (length left) → at + n ≡ after_many count trace at
unfolding after_many
many-after trace left at count n e h =
    ap (λ (k : ℕ). at + k) (h ∙ ap (λ (l : List ℕ). min (8 * count) (length l)) e ∙ sym (length-take (8 * count) (drop at trace)))

-- that is 8 bytes for each, cut at the trace's end
pub after-min : (trace : List ℕ) (at count : ℕ) → at ≤ length trace → after_many count trace at ≡ min (at + 8 * count) (length trace)
unfolding after_many
after-min trace at count h = omega (arith, h, length-take (8 * count) (drop at trace), length-drop at trace)

-- what is left past the first so many, however few there are
drop-taken : {A : Type 0} (n : ℕ) (xs : List A) → drop (length (take n xs)) xs ≡ drop n xs
drop-taken zero xs = refl
drop-taken (suc n) [] = refl
drop-taken (suc n) (x ∷ xs) = drop-taken n xs

-- past what stands next, a reader has 8 bytes less to read
pub left-past-next : (xs : List ℕ) (at : ℕ) → drop (after_next xs at) xs ≡ drop 8 (drop at xs)
unfolding after_next
left-past-next xs at = sym (drop-drop (length (take 8 (drop at xs))) at xs) ∙ drop-taken 8 (drop at xs)

-- past a run, a reader has left what the run leaves
pub left-past-many : (xs : List ℕ) (at count : ℕ) → drop (after_many count xs at) xs ≡ drop (8 * count) (drop at xs)
unfolding after_many
left-past-many xs at count = sym (drop-drop (length (take (8 * count) (drop at xs))) at xs) ∙ drop-taken (8 * count) (drop at xs)

-- a run over what is left, and the position after as many as it counts
pub ran-left : (f : File) (trace left : List ℕ) (at : ℕ) (buffer after : List ℕ) (r : Ran) (n : ℕ) → left ≡ drop at trace
    → ((r.answer ≡ (run f left buffer).answer) × (r.file ≡ (run f left buffer).file) × (r.count ≡ (run f left buffer).count)) × (after ≡ (run f left buffer).buffer)
    → n ≡ after_many r.count trace at → (◌≡◌ {A = RanAt} (record { ran = r; at = n }) (ran_at f trace at buffer)) × (after ≡ (run f (drop at trace) buffer).buffer)
unfolding ran_at
ran-left f trace left at buffer after r n e ((answered, filed, counted), filled) h =
    let over : (A : Type 0) (part : Left → A) → part (run f left buffer) ≡ part (run f (drop at trace) buffer) = λ A part. ap (λ (l : List ℕ). part (run f l buffer)) e in
    let count = counted ∙ over _ (λ w. w.count) in (
      λ i.
          record {
            ran = record { answer = (answered ∙ over _ (λ w. w.answer)) i; file = (filed ∙ over _ (λ w. w.file)) i; count = count i };
            at = (h ∙ ap (λ (k : ℕ). after_many k trace at) count) i;
          },
      filled ∙ over _ (λ w. w.buffer),
    )

-- what a reader has left after its run is what the run leaves, also of a file that is not sound
rest-by-count : (f : File) (trace buffer : List ℕ) → (run f trace buffer).rest ≡ drop (8 * (run f trace buffer).count) trace
unfolding run ran
rest-by-count f trace buffer = by-test (sound f) (λ e. rw e refl) (λ e. rw e refl)

pub left-handed-back : (f : File) (trace : List ℕ) (at : ℕ) (buffer : List ℕ) → drop (ran_at f trace at buffer).at trace ≡ (run f (drop at trace) buffer).rest
unfolding ran_at
left-handed-back f trace at buffer = left-past-many trace at (run f (drop at trace) buffer).count ∙ sym (rest-by-count f (drop at trace) buffer)
