-- Text added to a line, and that it stands there whole where it has room. Assumes nothing.
use Prim.Native.Nat.{ℕ, ◌+◌, ◌≤◌, ◌<◌}
use mathlib.Core.List.{List, [], ◌∷◌, ◌++◌, append_assoc, append-nil}
use mathlib.Core.Path.{◌≡◌, refl, sym, ap, ◌∙◌}
use native.Mathlib.Numerals.{add-one}
use native.Mathlib.Omega.{arith}
use borrow.Author.Tests.{lt-ltb}
use lib.ListN.{length, take, set, length-set}
use lib.Seq.{take-suc-set}
use Rattle.text.specs.declared.fixed.Line.{Line}
use Rattle.text.specs.Fixed.{behind, byte_behind, text_of}

-- one text after another
pub added-append : {most : ℕ} (l : Line most) (a b : List ℕ) → behind (behind l a) b ≡ behind l (a ++ b)
unfolding behind
added-append l [] b = refl
added-append l (x ∷ a) b = added-append (byte_behind l x) a b

pub then-added : {most : ℕ} (l : Line most) {m n : Line most} (a b : List ℕ) → m ≡ behind l a → n ≡ behind m b → n ≡ behind l (a ++ b)
then-added {most} l a b e f = f ∙ ap (λ (k : Line most). behind k b) e ∙ added-append l a b

-- a byte that has a place
byte-kept : {most : ℕ} (l : Line most) (b : ℕ) → l.end < most → byte_behind l b ≡ record { bytes = set l.bytes l.end b; end = l.end + 1 }
unfolding byte_behind
byte-kept {most} l b h = rw (lt-ltb l.end most h) refl

-- a text that has room stands after what stood there
pub all-kept : {most : ℕ} (l : Line most) (text : List ℕ) → length l.bytes ≡ most → l.end + length text ≤ most → text_of (behind l text) ≡ text_of l ++ text
unfolding behind
all-kept l [] long h = sym (append-nil (take l.end l.bytes))
all-kept {most} l (b ∷ bs) long h =
    let more : l.end < most = omega (arith, h) in
    let next : Line most = record { bytes = set l.bytes l.end b; end = l.end + 1 } in
    ap (λ (k : Line most). text_of (behind k bs)) (byte-kept l b more)
    ∙ all-kept next bs (length-set l.bytes l.end b ∙ long) (omega (arith, h))
    ∙ ap (λ (t : List ℕ). t ++ bs) (one_kept l b more long)
    ∙ append_assoc (take l.end l.bytes) (b ∷ []) bs
  where
    one_kept : {most : ℕ} (l : Line most) (b : ℕ) → l.end < most → length l.bytes ≡ most
        → take (l.end + 1) (set l.bytes l.end b) ≡ take l.end l.bytes ++ (b ∷ [])
    one_kept l b more long = rw add-one (take-suc-set l.bytes l.end b (omega (arith, more, long)))
