-- Counting replies one after the other, and that the codes of a run's replies are those of its items' answers. Assumes nothing.
use Prim.Native.Nat.{ℕ, suc, ◌+◌, ◌-◌, ◌*◌, ◌/◌, ◌≤◌, ◌<◌}
use mathlib.Core.List.{List, [], ◌∷◌, ◌++◌, append-nil}
use mathlib.Core.Path.{◌≡◌, refl, sym, ap, ap₂, ◌∙◌}
use native.Mathlib.Nat.{add-zero, sub-zero}
use native.Mathlib.Omega.{arith}
use lib.ListN.{length, get_or, drop}
use lib.Seq.{drop-drop, get_or-drop}
use Rattle.file.specs.declared.registers.File.{File}
use Rattle.file.specs.Answers.{code_of}
use Rattle.access.specs.declared.record.Item.{Item}
use Rattle.access.specs.Access.{access_item, reply_to}
use Rattle.trace.specs.Records.{reply_bytes}
use Rattle.trace.specs.Run.{file_after, replies}
use Rattle.trace.proofs.RunMore.{replies-length}
use Rattle.refusals.specs.declared.codes.Refusals.{Refusals}
use Rattle.refusals.specs.Counted.{codes_counted, counted_at, counted_items, counting_of, replies_counted}

-- all bytes are left at the start
pub none_yet : (count : ℕ) (counts bytes : List ℕ) → codes_counted (count - 0) counts (drop (8 * 0) bytes) ≡ codes_counted count counts bytes
none_yet count counts bytes = rw sub-zero refl

-- the next reply is counted, and the rest is left
pub next-counted : (count : ℕ) (counts bytes : List ℕ) (n : ℕ) → n < count
    → codes_counted (count - (n + 1)) (counted_at counts (get_or bytes (8 * n) 0)) (drop (8 * (n + 1)) bytes)
    ≡ codes_counted (count - n) counts (drop (8 * n) bytes)
unfolding codes_counted
next-counted count counts bytes n h =
    let less : count - n ≡ suc (count - (n + 1)) = omega arith in
    let on : 8 * (n + 1) ≡ 8 * n + 8 = omega arith in
    let here : get_or (drop (8 * n) bytes) 0 0 ≡ get_or bytes (8 * n) 0 = get_or-drop (8 * n) bytes 0 0 ∙ ap (λ (k : ℕ). get_or bytes k 0) (add-zero (8 * n)) in
    rw (less, on)
    (ap₂ (λ (code : ℕ) (l : List ℕ). codes_counted (count - (n + 1)) (counted_at counts code) l) (sym here) (sym (drop-drop 8 (8 * n) bytes)))

-- two replies
pub next-two : (count : ℕ) (counts bytes : List ℕ) (n : ℕ) → 2 * n + 1 < count
    → codes_counted (count - 2 * (n + 1)) (counted_at (counted_at counts (get_or bytes (16 * n) 0)) (get_or bytes (16 * n + 8) 0)) (drop (16 * (n + 1)) bytes)
    ≡ codes_counted (count - 2 * n) counts (drop (16 * n) bytes)
next-two count counts bytes n h =
    let up : 2 * (n + 1) ≡ 2 * n + 1 + 1 = omega arith in
    let behind : 16 * (n + 1) ≡ 8 * (2 * n + 1 + 1) = omega arith in
    let second : 16 * n + 8 ≡ 8 * (2 * n + 1) = omega arith in
    let first : 16 * n ≡ 8 * (2 * n) = omega arith in
    rw (behind, up, second, first)
    (next-counted count (counted_at counts (get_or bytes (8 * (2 * n)) 0)) bytes (2 * n + 1) (omega arith)
    ∙ next-counted count counts bytes (2 * n) (omega arith))

-- none is left at the end
pub all-counted : (count : ℕ) (counts bytes : List ℕ) (n : ℕ) → count ≤ n → codes_counted (count - n) counts bytes ≡ counts
unfolding codes_counted
all-counted count counts bytes n h = let none : count - n ≡ 0 = omega arith in rw none refl

-- the replies of a run, whatever stands behind them
codes-of-replies : (r : Refusals) (f : File) (is : List Item) (rest : List ℕ)
    → codes_counted (length is) r.counts (replies f is ++ rest) ≡ (counted_items r f is).counts
unfolding codes_counted counted_items counting_of replies reply_bytes reply_to
codes-of-replies r f [] rest = refl
codes-of-replies r f (i ∷ is) rest =
    codes-of-replies (counting_of r (code_of (access_item f i).answer)) (access_item f i).file is rest

-- counting the replies of a run is counting the answers of its items
pub replies-are-items : (r : Refusals) (f : File) (is : List Item) → replies_counted r (replies f is) ≡ counted_items r f is
unfolding replies_counted
replies-are-items r f is =
    let many : length (replies f is) / 8 ≡ length is = omega (arith, replies-length f is) in
    let all = ap₂ (λ (k : ℕ) (l : List ℕ). codes_counted k r.counts l) many (sym (append-nil (replies f is))) ∙ codes-of-replies r f is [] in
    λ i. record { counts = all i }

-- items in two parts
pub counted-in-parts : (r : Refusals) (f : File) (a b : List Item)
    → counted_items r f (a ++ b) ≡ counted_items (counted_items r f a) (file_after f a) b
unfolding counted_items file_after
counted-in-parts r f [] b = refl
counted-in-parts r f (i ∷ a) b = counted-in-parts (counting_of r (code_of (access_item f i).answer)) (access_item f i).file a b
