-- Text behind a line of limited length, byte by byte. Assumes nothing.
use Prim.Native.Nat.{ℕ, ◌+◌, ◌≤◌, ◌<◌}
use mathlib.Core.List.{List}
use mathlib.Core.Path.{◌≡◌}
use native.Mathlib.Numerals.{add-one}
use lib.ListN.{get_or, length, drop, drop_of_length-le}
use lib.Seq.{drop-cons}
use Rattle.text.specs.declared.fixed.Line.{Line}
use Rattle.text.specs.Fixed.{behind, byte_behind}

module _ {most : ℕ} (l : Line most) where
  -- the byte at a place of a text, and what is behind it
  pub next-byte : (text : List ℕ) (i : ℕ) → i < length text
      → behind (byte_behind l (get_or text i 0)) (drop (i + 1) text) ≡ behind l (drop i text)
  unfolding behind
  next-byte text i h = rw (drop-cons text i 0 h, add-one)

  -- behind the last there is none
  pub no_byte : (text : List ℕ) (i : ℕ) → length text ≤ i → behind l (drop i text) ≡ l
  unfolding behind
  no_byte text i h = rw (drop_of_length-le text h)
