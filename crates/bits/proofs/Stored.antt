-- The store rule, bit by bit, and what follows for the bits that a register stores.
-- Assumes nothing.
use Rattle.std.proofs.Common.{◌≡◌, ℕ, ◌<◌, ◌≤◌, min, Bool, ◌&&◌, T, eqb, sym, refl, ap, ◌∙◌, subst, le_trans, le_of_eq, arith, eqb→eq, ne_eqb, eqb-true}
use native.Mathlib.Nat.{min-zero}
use borrow.Author.Tests.{eqb-false}
use lib.Bits.{bit_and, bit_or, bit_xor, differ, or_zero_l, or_add_and, xor_add_and, xor_self, and_le_l, and_le_r}
use lib.Dec.{eqb_refl}
use Rattle.bits.specs.Store.{bit, store, within}
use Rattle.bits.proofs.Bit.{by_bit, bit-lt, bit-and, bit-xor, bit-of-zero, by_bits}
use Rattle.bits.proofs.Test.{by-test}

-- a bit of what is stored
pub stored-bit : (i reach old value : ℕ)
    → bit i (store reach old value) ≡ differ (bit i old) (min (differ (bit i old) (bit i value)) (bit i reach))
unfolding store
stored-bit i reach old value =
    bit-xor i old (bit_and (bit_xor old value) reach)
    ∙ ap (differ (bit i old)) (bit-and i (bit_xor old value) reach ∙ ap (λ (x : ℕ). min x (bit i reach)) (bit-xor i old value))

differ-none : (x y : ℕ) → x < 2 → differ x (min y 0) ≡ x
differ-none x y h =
    ap (differ x) (min-zero y) ∙ by_bit (λ (x : ℕ). differ x 0 ≡ x) refl refl x h

differ-all : (x y : ℕ) → x < 2 → y < 2 → differ x (min (differ x y) 1) ≡ y
differ-all x y hx hy =
    by_bit (λ (x : ℕ). differ x (min (differ x y) 1) ≡ y)
    (by_bit (λ (y : ℕ). differ 0 (min (differ 0 y) 1) ≡ y) refl refl y hy)
    (by_bit (λ (y : ℕ). differ 1 (min (differ 1 y) 1) ≡ y) refl refl y hy) x hx

-- outside the reach every bit is the old one
pub outside : (i reach old value : ℕ) → bit i reach ≡ 0 → bit i (store reach old value) ≡ bit i old
outside i reach old value e =
    stored-bit i reach old value
    ∙ ap (λ (x : ℕ). differ (bit i old) (min (differ (bit i old) (bit i value)) x)) e
    ∙ differ-none (bit i old) (differ (bit i old) (bit i value)) (bit-lt i old)

-- inside it every bit is the value's
pub inside : (i reach old value : ℕ) → bit i reach ≡ 1 → bit i (store reach old value) ≡ bit i value
inside i reach old value e =
    stored-bit i reach old value
    ∙ ap (λ (x : ℕ). differ (bit i old) (min (differ (bit i old) (bit i value)) x)) e
    ∙ differ-all (bit i old) (bit i value) (bit-lt i old) (bit-lt i value)

-- what is within a register's stored bits has none set outside them
pub within-bit : (i stored value : ℕ) → T (within stored value) → bit i stored ≡ 0 → bit i value ≡ 0
unfolding within
within-bit i stored value t e =
    ap (bit i) (sym (eqb→eq (store stored 0 value) value t)) ∙ outside i stored 0 value e ∙ bit-of-zero i

-- what a store leaves, told by the old bits outside the reach and the value's inside it
store_is : (reach old value new : ℕ) → ((i : ℕ) → bit i reach ≡ 0 → bit i old ≡ bit i new)
    → ((i : ℕ) → bit i reach ≡ 1 → bit i value ≡ bit i new) → store reach old value ≡ new
store_is reach old value new out into =
    by_bits (store reach old value) new (λ i. at i (bit i reach) (bit-lt i reach) refl)
  where
    at : (i x : ℕ) → x < 2 → bit i reach ≡ x → bit i (store reach old value) ≡ bit i new
    at i x hx =
        by_bit (λ (x : ℕ). bit i reach ≡ x → bit i (store reach old value) ≡ bit i new)
        (λ e. outside i reach old value e ∙ out i e) (λ e. inside i reach old value e ∙ into i e) x hx

-- and what has none set outside them is within
pub within-by-bits : (stored value : ℕ) → ((i : ℕ) → bit i stored ≡ 0 → bit i value ≡ 0) → T (within stored value)
unfolding within
within-by-bits stored value h = subst (λ (x : ℕ). T (eqb x value)) (sym same) (eqb_refl value)
  where
    same : store stored 0 value ≡ value
    same = store_is stored 0 value value (λ i e. bit-of-zero i ∙ sym (h i e)) (λ i e. refl)

-- a store whose reach is within the stored bits leaves a register within them
pub store-within : (stored reach old value : ℕ)
    → T (within stored reach) → T (within stored old) → T (within stored (store reach old value))
store-within stored reach old value r o =
    within-by-bits stored (store reach old value)
    (λ i e. outside i reach old value (within-bit i stored reach r e) ∙ within-bit i stored old o e)

-- every number is within itself
pub within-self : (stored : ℕ) → T (within stored stored)
within-self stored = within-by-bits stored stored (λ i e. e)

-- a value within the stored bits, stored over another that is, is held exactly
pub store-exact : (stored old value : ℕ) → T (within stored old) → T (within stored value) → store stored old value ≡ value
store-exact stored old value o v =
    store_is stored old value value (λ i e. within-bit i stored old o e ∙ sym (within-bit i stored value v e)) (λ i e. refl)

-- what is within a mask is at most the mask
pub within-le : (stored value : ℕ) → T (within stored value) → value ≤ stored
unfolding within store
within-le stored value t = le_trans (le_of_eq (sym (eqb→eq (store stored 0 value) value t))) (and_le_r value stored)

-- nothing is set in two numbers' bits together if in neither
pub none_or : (a b : ℕ) → eqb (bit_or a b) 0 ≡ (eqb a 0 && eqb b 0)
none_or a b =
    by-test (eqb a 0)
    (λ z. ap (λ (x : ℕ). eqb (bit_or x b) 0) (eqb-true a 0 z) ∙ ap (λ (x : ℕ). eqb x 0) (or_zero_l b) ∙ ap (λ (t : Bool). t && eqb b 0) (sym z))
    (λ n. ne_eqb (bit_or a b) 0 (λ e. eqb-false a 0 n (omega (arith, or_add_and a b, and_le_r a b, e))) ∙ ap (λ (t : Bool). t && eqb b 0) (sym n))

-- two numbers differ in no bit if they are equal
none-xor : (a b : ℕ) → eqb (bit_xor a b) 0 ≡ eqb b a
none-xor a b =
    by-test (eqb b a)
    (λ t. ap (λ (x : ℕ). eqb (bit_xor a x) 0) (eqb-true b a t) ∙ ap (λ (x : ℕ). eqb x 0) (xor_self a) ∙ sym t)
    (λ n. ne_eqb (bit_xor a b) 0 (λ e. eqb-false b a n (omega (arith, xor_add_and a b, and_le_l a b, and_le_r a b, e))) ∙ sym n)

-- a value has no stray bit if it is within the stored ones
pub none-stray : (stored value stray : ℕ) → stray ≡ bit_xor value (store stored 0 value) → eqb stray 0 ≡ within stored value
unfolding within
none-stray stored value stray e = ap (λ (x : ℕ). eqb x 0) e ∙ none-xor value (store stored 0 value)
