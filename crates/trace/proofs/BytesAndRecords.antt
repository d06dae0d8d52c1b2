-- A record and its 8 bytes say the same: each is had from the other. Assumes nothing.
use Prim.Native.Nat.{ℕ, ◌+◌, ◌*◌, ◌/◌, ◌%◌, ◌<◌}
use mathlib.Core.Path.{◌≡◌, ap, ◌∙◌}
use mathlib.Core.List.{List, [], ◌∷◌}
use native.Mathlib.Omega.{arith}
use lib.ListN.{take}
use Rattle.access.specs.declared.record.Record.{Record}
use Rattle.access.specs.declared.record.Item.{Item}
use Rattle.access.specs.declared.record.Item.TheVariants.{Whole}
use Rattle.trace.specs.Records.{two, four, record_of, bytes_of, item_of}

-- the bytes of a record mean the record
pub record-of-bytes : (r : Record) → record_of (bytes_of r) ≡ r
unfolding record_of bytes_of two four
record-of-bytes r = λ i. record { kind = r.kind; width = r.width; address = address i; value = value i }
  where
    address : r.address % 256 + 256 * (r.address / 256) ≡ r.address
    address = omega arith

    value : r.value % 256 + 256 * (r.value / 256 % 256) + 65536 * (r.value / 65536 % 256) + 16777216 * (r.value / 16777216) ≡ r.value
    value = omega arith

-- so `item_of` gives back what `record_bytes` wrote, by their contracts
pub decoded-encoded : (r : Record) (bytes : List ℕ) (i : Item) → bytes ≡ bytes_of r → i ≡ item_of (take 8 bytes) → i ≡ Whole r
unfolding bytes_of item_of
decoded-encoded r bytes i encoded decoded = decoded ∙ ap (λ (l : List ℕ). item_of (take 8 l)) encoded ∙ ap {B = Item} (λ (s : Record). Whole s) (record-of-bytes r)

-- what 8 bytes mean has these bytes
pub bytes-of-record : (kind width a b c d e f : ℕ) → a < 256 → c < 256 → d < 256 → e < 256
    → bytes_of (record_of (kind ∷ width ∷ a ∷ b ∷ c ∷ d ∷ e ∷ f ∷ [])) ≡ kind ∷ width ∷ a ∷ b ∷ c ∷ d ∷ e ∷ f ∷ []
unfolding record_of bytes_of two four
bytes-of-record kind width a b c d e f ha hc hd he = λ i. kind ∷ width ∷ low i ∷ high i ∷ first i ∷ second i ∷ third i ∷ fourth i ∷ []
  where
    low : (a + 256 * b) % 256 ≡ a
    low = omega (arith, ha)

    high : (a + 256 * b) / 256 ≡ b
    high = omega (arith, ha)

    first : (c + 256 * d + 65536 * e + 16777216 * f) % 256 ≡ c
    first = omega (arith, hc)

    second : (c + 256 * d + 65536 * e + 16777216 * f) / 256 % 256 ≡ d
    second = omega (arith, hc, hd)

    third : (c + 256 * d + 65536 * e + 16777216 * f) / 65536 % 256 ≡ e
    third = omega (arith, hc, hd, he)

    fourth : (c + 256 * d + 65536 * e + 16777216 * f) / 16777216 ≡ f
    fourth = omega (arith, hc, hd, he)
