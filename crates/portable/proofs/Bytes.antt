-- Bytes are registers that store eight bits, and a write keeps them so. Assumes nothing.
use Prim.Native.Nat.{ℕ, suc, ◌≤◌, ◌<◌}
use mathlib.Core.Path.{◌≡◌, subst}
use mathlib.Core.List.{List, [], ◌∷◌}
use native.Mathlib.Omega.{arith}
use borrow.Author.Tests.{ltb-true, ltb-false}
use lib.Dec.{T, ltb}
use lib.ListN.{length, get_or, replicate, length-replicate, get_or-replicate, get_or-eq_default}
use Rattle.bits.specs.Numbers.{write_numbers}
use Rattle.bits.specs.Store.{within}
use Rattle.bits.proofs.Shift.{bit-above, bit-ones}
use Rattle.bits.proofs.Stored.{within-by-bits, within-le}
use Rattle.bits.proofs.Test.{by-test, both}
use Rattle.file.specs.Sound.{all_within}
use Rattle.file.proofs.Soundness.{at}
use Rattle.timing.proofs.Layouts.{written-within}
use Rattle.portable.specs.Table.{table, stored}
use Rattle.portable.proofs.Computed.{layout-lawful}

byte-within : (value : ℕ) → value < 256 → T (within 0xFF value)
byte-within value h =
    within-by-bits 0xFF value
    (λ i e. by-test (ltb i 8)
    (λ t. absurd (omega (arith, bit-ones i 8 (ltb-true i 8 t), e)))
    (λ t. bit-above i 8 value h (ltb-false i 8 t)))

bytes-within : (values : List ℕ) → ((k : ℕ) → get_or values k 0 < 256) → T (all_within (replicate (length values) 0xFF) values)
unfolding all_within
bytes-within [] h = tt
bytes-within (v ∷ vs) h =
    both (within 0xFF v) (all_within (replicate (length vs) 0xFF) vs) (byte-within v (h 0)) (bytes-within vs (λ k. h (suc k)))

full : (n k : ℕ) → get_or (replicate n 0xFF) k 0 ≤ 0xFF
full n k =
    by-test (ltb k n)
    (λ t. omega (arith, get_or-replicate {A = ℕ} n k 0xFF 0 (ltb-true k n t)))
    (λ t. omega (arith, get_or-eq_default {A = ℕ} (replicate n 0xFF) 0 {n = k} (omega (arith, length-replicate {A = ℕ} n 0xFF, ltb-false k n t))))

-- 28 bytes with numbers written into them are bytes
pub written-bytes : (numbers bytes : List ℕ) → length bytes ≡ 28 → ((k : ℕ) → get_or bytes k 0 < 256)
    → (k : ℕ) → get_or (write_numbers table numbers bytes) k 0 < 256
unfolding stored
written-bytes numbers bytes e h k =
    omega (arith, within-le (get_or (replicate 28 0xFF) k 0) (get_or (write_numbers table numbers bytes) k 0) (at (replicate 28 0xFF) (write_numbers table numbers bytes) k after), full 28 k)
  where
    before : T (all_within (replicate 28 0xFF) bytes)
    before = subst (λ (n : ℕ). T (all_within (replicate n 0xFF) bytes)) e (bytes-within bytes h)

    after : T (all_within (replicate 28 0xFF) (write_numbers table numbers bytes))
    after = written-within (replicate 28 0xFF) table numbers bytes layout-lawful.stores before
