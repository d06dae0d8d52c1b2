-- A run, one item more: items, file and replies at the end of a list; soundness along it. Assumes nothing.
use Prim.Native.Nat.{ℕ, zero, suc, ◌+◌, ◌*◌}
use mathlib.Core.Path.{◌≡◌, refl, sym, ap, ◌∙◌}
use mathlib.Core.List.{List, [], ◌∷◌, ◌++◌, append_assoc, append-nil}
use native.Mathlib.Omega.{arith}
use lib.Dec.{T}
use lib.ListN.{length, take, drop}
use lib.Seq.{drop-drop}
use Rattle.file.specs.declared.registers.File.{File}
use Rattle.file.specs.Sound.{sound}
use Rattle.access.specs.declared.record.Item.{Item}
use Rattle.access.specs.declared.record.Item.TheVariants.{Whole, Fragment}
use Rattle.access.specs.Access.{access_item, record_in, reply_to}
use Rattle.trace.specs.Records.{item_of, items, reply_bytes}
use Rattle.trace.specs.Run.{file_after, replies}
use Rattle.access.proofs.Soundness.{access-sound, access-chip}

eight : (n : ℕ) → 8 + 8 * n ≡ 8 * suc n
eight n = omega arith

-- the items of a trace, one more
pub items_more : (n : ℕ) (trace : List ℕ) → items (suc n) trace ≡ items n trace ++ item_of (take 8 (drop (8 * n) trace)) ∷ []
unfolding items
items_more zero trace = refl
items_more (suc n) trace =
    ap (λ (is : List Item). item_of (take 8 trace) ∷ is)
    (items_more n (drop 8 trace)
    ∙ ap (λ (l : List ℕ). items n (drop 8 trace) ++ item_of (take 8 l) ∷ [])
    (drop-drop (8 * n) 8 trace ∙ ap (λ (k : ℕ). drop k trace) (eight n)))

-- the file after one more
pub file-more : (f : File) (is : List Item) (i : Item) → file_after f (is ++ i ∷ []) ≡ (access_item (file_after f is) i).file
unfolding file_after
file-more f [] i = refl
file-more f (j ∷ is) i = file-more (access_item f j).file is i

-- the replies with one more
pub replies-more : (f : File) (is : List Item) (i : Item)
    → replies f (is ++ i ∷ []) ≡ replies f is ++ reply_bytes (reply_to (record_in i) (access_item (file_after f is) i).answer)
unfolding file_after replies
replies-more f [] i = append-nil (reply_bytes (reply_to (record_in i) (access_item f i).answer))
replies-more f (j ∷ is) i =
    ap (λ (l : List ℕ). reply_bytes (reply_to (record_in j) (access_item f j).answer) ++ l) (replies-more (access_item f j).file is i)
    ∙ sym (append_assoc (reply_bytes (reply_to (record_in j) (access_item f j).answer)) (replies (access_item f j).file is) _)

-- eight bytes for each
pub replies-length : (f : File) (is : List Item) → length (replies f is) ≡ 8 * length is
unfolding replies reply_bytes
replies-length f [] = refl
replies-length f (i ∷ is) = omega (arith, replies-length (access_item f i).file is)

pub items-length : (n : ℕ) (trace : List ℕ) → length (items n trace) ≡ n
unfolding items
items-length zero trace = refl
items-length (suc n) trace = ap suc (items-length n (drop 8 trace))

-- a sound file stays sound along a run
pub item-sound : (f : File) (i : Item) → T (sound f) → T (sound (access_item f i).file)
unfolding access_item
item-sound f (Whole r) s = access-sound f s r
item-sound f (Fragment r) s = s

pub run_sound : (f : File) (is : List Item) → T (sound f) → T (sound (file_after f is))
unfolding file_after
run_sound f [] s = s
run_sound f (i ∷ is) s = run_sound (access_item f i).file is (item-sound f i s)

-- 02, 6/13: no item changes the chip
pub item-chip : (f : File) (i : Item) → (access_item f i).file.state.chip ≡ f.state.chip
unfolding access_item
item-chip f (Whole r) = access-chip f r
item-chip f (Fragment r) = refl

pub run-chip : (f : File) (is : List Item) → (file_after f is).state.chip ≡ f.state.chip
unfolding file_after
run-chip f [] = refl
run-chip f (i ∷ is) = run-chip (access_item f i).file is ∙ item-chip f i
