-- What is put is safe: every byte of it is 20h to 7Eh. Assumes nothing.
use Prim.Native.Nat.{ℕ}
use mathlib.Core.Bool.{Bool, true, ◌&&◌}
use mathlib.Core.List.{List, [], ◌∷◌, ◌++◌}
use borrow.Author.Tests.{ltb-true}
use lib.Dec.{T, leb, ltb}
use Rattle.bits.specs.Every.{every_below}
use Rattle.bits.proofs.Test.{below, both, is_true, left, right}
use Rattle.text.specs.Text.{capital}
use Rattle.escaping.specs.Escaped.{escape, escaped_byte, escaped_text, is_plain}

-- a byte that a terminal shows as it is
unfoldable pub is_shown : ℕ → Bool
is_shown b = leb 0x20 b && leb b 0x7E

unfoldable pub all_shown : List ℕ → Bool
all_shown [] = true
all_shown (b ∷ bs) = is_shown b && all_shown bs

byte-shown : T (every_below (λ (b : ℕ). all_shown (escaped_byte b)) 256)
unfolding every_below all_shown is_shown escaped_byte escape is_plain capital
byte-shown = tt

both-shown : (xs ys : List ℕ) → T (all_shown xs) → T (all_shown ys) → T (all_shown (xs ++ ys))
unfolding all_shown
both-shown [] ys s t = t
both-shown (x ∷ xs) ys s t =
    both (is_shown x) (all_shown (xs ++ ys)) (left (is_shown x) (all_shown xs) s) (both-shown xs ys (right (is_shown x) (all_shown xs) s) t)

unfoldable pub all_bytes : List ℕ → Bool
all_bytes [] = true
all_bytes (b ∷ bs) = ltb b 256 && all_bytes bs

-- every byte that is put for bytes is one that a terminal shows
pub escaped-is-shown : (bytes : List ℕ) → T (all_bytes bytes) → T (all_shown (escaped_text bytes))
unfolding escaped_text all_shown all_bytes
escaped-is-shown [] t = tt
escaped-is-shown (b ∷ bs) t =
    both-shown (escaped_byte b) (escaped_text bs)
    (below (λ (k : ℕ). all_shown (escaped_byte k)) 256 byte-shown b (ltb-true b 256 (is_true (ltb b 256) (left (ltb b 256) (all_bytes bs) t))))
    (escaped-is-shown bs (right (ltb b 256) (all_bytes bs) t))
