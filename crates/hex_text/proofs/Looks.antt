-- Whether bytes look like a text. Assumes nothing.
use Prim.Native.Nat.{ℕ}
use mathlib.Core.Bool.{false}
use mathlib.Core.Path.{◌≡◌, refl}
use mathlib.Core.List.{List, [], ◌∷◌}
use native.Mathlib.Omega.{arith}
use borrow.Author.Tests.{lt-ltb, le-ltb}
use lib.ListN.{length, take}
use Rattle.hex_text.specs.Source.{all_printable, looks_like_text}

pub looks-by : (bytes : List ℕ) → (length bytes ≡ 0 → ⊥) → all_printable (take 64 bytes) ≡ looks_like_text bytes
unfolding looks_like_text
looks-by [] n = absurd (n refl)
looks-by (b ∷ bytes) n = rw (lt-ltb 0 (length (b ∷ bytes)) (omega arith))

pub empty-not : (bytes : List ℕ) → length bytes ≡ 0 → false ≡ looks_like_text bytes
unfolding looks_like_text
empty-not bytes e = rw (le-ltb 0 (length bytes) (omega (arith, e)))
