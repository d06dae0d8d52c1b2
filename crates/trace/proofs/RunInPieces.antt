-- A run in pieces: two runs, the second over what the first leaves, do what one run over as many records does. Assumes nothing.
use Prim.Native.Nat.{ℕ, zero, suc, ◌+◌, ◌*◌}
use mathlib.Core.Path.{◌≡◌, refl, sym, ap, ap₂, ◌∙◌, subst}
use mathlib.Core.List.{List, [], ◌∷◌, ◌++◌, append_assoc}
use native.Mathlib.Nat.{zero-add, suc-add}
use native.Mathlib.Omega.{arith}
use lib.Dec.{T}
use lib.ListN.{take, drop}
use lib.Seq.{drop-drop, take_at}
use Rattle.bits.proofs.Test.{is_true}
use Rattle.file.specs.declared.registers.File.{File}
use Rattle.file.specs.Sound.{sound}
use Rattle.access.specs.declared.record.Item.{Item}
use Rattle.access.specs.Access.{access_item, record_in, reply_to}
use Rattle.trace.specs.Records.{item_of, items, reply_bytes}
use Rattle.trace.specs.Run.{RunLeft, file_after, replies, run_count, ran, run, resumed, filled}
use Rattle.trace.proofs.RunMore.{replies-length, items-length, run_sound}

-- items, file and replies of a trace, part after part
items-parted : (m n : ℕ) (trace : List ℕ) → items (m + n) trace ≡ items m trace ++ items n (drop (8 * m) trace)
unfolding items
items-parted zero n trace = ap (λ (k : ℕ). items k trace) (zero-add n)
items-parted (suc m) n trace =
    ap (λ (k : ℕ). items k trace) (suc-add m n)
    ∙ ap (λ (is : List Item). item_of (take 8 trace) ∷ is)
    (items-parted m n (drop 8 trace) ∙ ap (λ (l : List ℕ). items m (drop 8 trace) ++ items n l) (drop-drop (8 * m) 8 trace ∙ ap (λ (k : ℕ). drop k trace) eight))
  where
    eight : 8 + 8 * m ≡ 8 * suc m
    eight = omega arith

pub file-in-parts : (f : File) (is js : List Item) → file_after f (is ++ js) ≡ file_after (file_after f is) js
unfolding file_after
file-in-parts f [] js = refl
file-in-parts f (i ∷ is) js = file-in-parts (access_item f i).file is js

replies-parted : (f : File) (is js : List Item) → replies f (is ++ js) ≡ replies f is ++ replies (file_after f is) js
unfolding file_after replies
replies-parted f [] js = refl
replies-parted f (i ∷ is) js =
    ap (λ (l : List ℕ). reply_bytes (reply_to (record_in i) (access_item f i).answer) ++ l) (replies-parted (access_item f i).file is js)
    ∙ sym (append_assoc (reply_bytes (reply_to (record_in i) (access_item f i).answer)) (replies (access_item f i).file is) _)

filled_is : (n : ℕ) (f : File) (trace buffer : List ℕ) → filled (ran n f trace buffer) ≡ replies f (items n trace)
unfolding filled ran
filled_is n f trace buffer = take_at (replies f (items n trace)) (drop (8 * n) buffer) (8 * n) (replies-length f (items n trace) ∙ ap (λ (k : ℕ). 8 * k) (items-length n trace))

sound-run : (f : File) (trace buffer : List ℕ) → T (sound f) → run f trace buffer ≡ ran (run_count trace buffer) f trace buffer
unfolding run
sound-run f trace buffer s = rw (is_true (sound f) s) refl

module _ (f : File) (trace first second : List ℕ) where
  both : (m n : ℕ) → (file_after (file_after f (items m trace)) (items n (drop (8 * m) trace)) ≡ file_after f (items (m + n) trace))
      × (replies f (items m trace) ++ replies (file_after f (items m trace)) (items n (drop (8 * m) trace)) ≡ replies f (items (m + n) trace))
  both m n =
      let parted = sym (items-parted m n trace) in (
        sym (file-in-parts f (items m trace) (items n (drop (8 * m) trace))) ∙ ap (file_after f) parted,
        sym (replies-parted f (items m trace) (items n (drop (8 * m) trace))) ∙ ap (replies f) parted,
      )

  -- what the two say together of the first trace
  abbrev Same : RunLeft → RunLeft → Type 0
  Same r q = (q.file ≡ file_after f (items (r.count + q.count) trace)) × (filled r ++ filled q ≡ replies f (items (r.count + q.count) trace))

  pub in_pieces : T (sound f) → Same (run f trace first) (resumed (run f trace first) second)
  unfolding resumed ran
  in_pieces s =
      let m = run_count trace first in
      let rest = drop (8 * m) trace in
      let n = run_count rest second in
      let here : run f trace first ≡ ran m f trace first = sound-run f trace first s in
      let there : resumed (run f trace first) second ≡ ran n (file_after f (items m trace)) rest second = ap (λ (r : RunLeft). resumed r second) here ∙ sound-run (file_after f (items m trace)) rest second (run_sound f (items m trace) s) in
      subst (λ (r : RunLeft). Same r (resumed (run f trace first) second)) (sym here)
      (subst (λ (q : RunLeft). Same (ran m f trace first) q) (sym there)
      ((both m n).0, ap₂ (λ (x y : List ℕ). x ++ y) (filled_is m f trace first) (filled_is n (file_after f (items m trace)) rest second) ∙ (both m n).1))
