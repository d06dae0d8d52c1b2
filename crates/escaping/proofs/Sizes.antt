-- How many bytes escaped bytes take, one after the other. Assumes nothing.
use Prim.Native.Nat.{ℕ, ◌+◌, ◌-◌, ◌*◌, ◌≤◌, ◌<◌}
use mathlib.Core.Bool.{true, false}
use mathlib.Core.List.{List, [], ◌∷◌, ◌++◌}
use mathlib.Core.Path.{◌≡◌, refl, sym, ap, ◌∙◌}
use native.Mathlib.Numerals.{add-one}
use native.Mathlib.Omega.{arith}
use lib.ListN.{length, drop, get_or, length-append, drop_of_length-le}
use lib.Seq.{drop-cons}
use Rattle.bits.proofs.Test.{by-test}
use Rattle.escaping.specs.Escaped.{escape, escaped_byte, escaped_text, is_plain}

pub plain_size : (b : ℕ) → is_plain b ≡ true → length (escaped_byte b) ≡ 1
unfolding escaped_byte
plain_size b e = rw e refl

pub escape-size : (b : ℕ) → is_plain b ≡ false → length (escaped_byte b) ≡ 4
unfolding escaped_byte escape
escape-size b e = rw e refl

module _ (bytes : List ℕ) (i : ℕ) (h : i < length bytes) where
  -- the next byte, and the rest
  pub next-escaped : escaped_byte (get_or bytes i 0) ++ escaped_text (drop (i + 1) bytes) ≡ escaped_text (drop i bytes)
  unfolding escaped_text
  next-escaped = rw (drop-cons bytes i 0 h, add-one)

  pub next-size : length (escaped_byte (get_or bytes i 0)) + length (escaped_text (drop (i + 1) bytes)) ≡ length (escaped_text (drop i bytes))
  next-size = sym (length-append (escaped_byte (get_or bytes i 0)) (escaped_text (drop (i + 1) bytes))) ∙ ap length next-escaped

-- after the last byte there is none
pub none_left : (bytes : List ℕ) (i : ℕ) → length bytes ≤ i → escaped_text (drop i bytes) ≡ []
unfolding escaped_text
none_left bytes i h = rw (drop_of_length-le bytes h)

-- a byte takes four bytes at most
pub byte-most : (b : ℕ) → length (escaped_byte b) ≤ 4
byte-most b = by-test (is_plain b) (λ e. omega (arith, plain_size b e)) (λ e. omega (arith, escape-size b e))

pub text-most : (bytes : List ℕ) (n : ℕ) → length bytes ≤ n → length (escaped_text bytes) ≤ 4 * n
unfolding escaped_text
text-most [] n h = omega arith
text-most (b ∷ bs) n h =
    omega (arith, length-append (escaped_byte b) (escaped_text bs), byte-most b, text-most bs (n - 1) (omega (arith, h)), h)
