-- The bytes of a record that stands in a trace, and what is read off them. Assumes nothing.
use Prim.Native.Nat.{ℕ, ◌+◌, ◌*◌, ◌-◌, ◌<◌, ◌≤◌}
use mathlib.Core.Path.{◌≡◌, sym, ap, ◌∙◌}
use mathlib.Core.List.{List}
use native.Mathlib.Nat.{add-zero}
use native.Mathlib.Omega.{arith}
use lib.Dec.{lit<}
use lib.ListN.{length, get_or, take, drop, length-take, length-drop}
use lib.Seq.{get_or-take, get_or-drop, take_all}
use borrow.Author.Tests.{le-leb, lt-leb}
use Rattle.access.specs.declared.record.Record.{Record}
use Rattle.access.specs.declared.record.Item.{Item}
use Rattle.access.specs.declared.record.Item.TheVariants.{Whole, Fragment}
use Rattle.trace.specs.Records.{two, four, record_of, item_of}

byte_at : (bytes : List ℕ) (at i : ℕ) → i < 8 → get_or bytes (at + i) 0 ≡ get_or (take 8 (drop at bytes)) i 0
byte_at bytes at i h = sym (get_or-take 8 (drop at bytes) i 0 h ∙ get_or-drop at bytes i 0)

-- a record of eight bytes of a list, from its two numbers
pub record-at-place : (bytes : List ℕ) (at address value : ℕ)
    → address ≡ get_or bytes (at + 2) 0 + 256 * get_or bytes (at + 3) 0
    → value ≡ get_or bytes (at + 4) 0 + 256 * get_or bytes (at + 5) 0 + 65536 * get_or bytes (at + 6) 0 + 16777216 * get_or bytes (at + 7) 0
    → record { kind = get_or bytes at 0; width = get_or bytes (at + 1) 0; address = address; value = value }
    ≡ record_of (take 8 (drop at bytes))
unfolding record_of two four
record-at-place bytes at address value ea ev = λ i.
    record {
      kind = (ap (λ (n : ℕ). get_or bytes n 0) (sym (add-zero at)) ∙ byte_at bytes at 0 (lit< tt)) i;
      width = byte_at bytes at 1 (lit< tt) i;
      address = (ea ∙ (λ j. byte_at bytes at 2 (lit< tt) j + 256 * byte_at bytes at 3 (lit< tt) j)) i;
      value = (ev ∙ (λ j. byte_at bytes at 4 (lit< tt) j + 256 * byte_at bytes at 5 (lit< tt) j + 65536 * byte_at bytes at 6 (lit< tt) j + 16777216 * byte_at bytes at 7 (lit< tt) j)) i;
    }

-- a record is made of its first 8 bytes
record-taken : (xs : List ℕ) → record_of (take 8 xs) ≡ record_of xs
unfolding record_of two four
record-taken xs = λ i.
    record {
      kind = get_or-take 8 xs 0 0 (lit< tt) i;
      width = get_or-take 8 xs 1 0 (lit< tt) i;
      address = get_or-take 8 xs 2 0 (lit< tt) i + 256 * get_or-take 8 xs 3 0 (lit< tt) i;
      value = get_or-take 8 xs 4 0 (lit< tt) i + 256 * get_or-take 8 xs 5 0 (lit< tt) i + 65536 * get_or-take 8 xs 6 0 (lit< tt) i + 16777216 * get_or-take 8 xs 7 0 (lit< tt) i;
    }

-- a record that was made of the bytes
pub record-read : (xs : List ℕ) {b₀ b₁ b₂ b₃ b₄ b₅ b₆ b₇ a v : ℕ} → b₀ ≡ get_or xs 0 0 → b₁ ≡ get_or xs 1 0 → b₂ ≡ get_or xs 2 0 → b₃ ≡ get_or xs 3 0 → b₄ ≡ get_or xs 4 0 → b₅ ≡ get_or xs 5 0 → b₆ ≡ get_or xs 6 0 → b₇ ≡ get_or xs 7 0
    → a ≡ b₂ + 256 * b₃ → v ≡ b₄ + 256 * b₅ + 65536 * b₆ + 16777216 * b₇ → ◌≡◌ {A = Record} (record { kind = b₀; width = b₁; address = a; value = v }) (record_of (take 8 xs))
unfolding record_of two four
record-read xs e₀ e₁ e₂ e₃ e₄ e₅ e₆ e₇ ea ev =
    (λ i. record { kind = e₀ i; width = e₁ i; address = (ea ∙ (λ j. e₂ j + 256 * e₃ j)) i; value = (ev ∙ (λ j. e₄ j + 256 * e₅ j + 65536 * e₆ j + 16777216 * e₇ j)) i })
    ∙ sym (record-taken xs)

-- of what is whole, and of a fragment
pub whole-read : (xs : List ℕ) (r : Record) → r ≡ record_of (take 8 xs) → 8 ≤ length xs → Whole r ≡ item_of (take 8 xs)
unfolding item_of
whole-read xs r e h = rw (le-leb 8 (length (take 8 xs)) (omega (arith, length-take 8 xs))) (ap {B = Item} (λ (s : Record). Whole s) e)

pub fragment-read : (xs : List ℕ) (r : Record) → r ≡ record_of (take 8 xs) → length xs < 8 → Fragment r ≡ item_of (take 8 xs)
unfolding item_of
fragment-read xs r e h = rw (lt-leb 8 (length (take 8 xs)) (omega (arith, length-take 8 xs))) (ap {B = Item} (λ (s : Record). Fragment s) e)

-- what is left from a position on
pub part_left : (xs : List ℕ) (at : ℕ) → take (length xs - at) (drop at xs) ≡ drop at xs
part_left xs at = take_all (length xs - at) (drop at xs) (omega (arith, length-drop at xs))
