-- One piece of a register: what a `put` changes and what it leaves, and what the piece holds afterwards.
-- Assumes nothing.
use Rattle.std.proofs.Common.{◌≡◌, ℕ, zero, suc, ◌+◌, ◌-◌, ◌*◌, ◌/◌, ◌%◌, ◌^◌, ◌<◌, ◌≤◌, ltb, List, [], ◌∷◌, length, get_or, set, sym, refl, ap, ◌∙◌, mod-lt, add-sub_of_le, arith, length-set, get_or-set_same, pow_pos, ltb-false, ltb-true}
use native.Mathlib.Nat.{mod-mod}
use lib.Pow.{ones_lt}
use lib.Seq.{set-get_or}
use Rattle.bits.specs.Pieces.{Piece, held, piece_reach, put}
use Rattle.bits.specs.Store.{bit, store}
use Rattle.bits.proofs.Bit.{by_bit, by_bits, bit-lt}
use Rattle.bits.proofs.Shift.{bit-shr, bit-mod, bit-above, bit-shl, bit_below, bit-ones, by-low-bits}
use Rattle.bits.proofs.Stored.{outside, inside}
use Rattle.bits.proofs.Test.{by-test}

-- a store in a list of registers: every bit of every register stays, but those of the reach
pub stored-outside : (registers : List ℕ) (number reach value n i : ℕ) → (n ≡ number → bit i reach ≡ 0)
    → bit i (get_or (set registers number (store reach (get_or registers number 0) value)) n 0) ≡ bit i (get_or registers n 0)
stored-outside [] number reach value n i h = refl
stored-outside (x ∷ xs) zero reach value zero i h = outside i reach x value (h refl)
stored-outside (x ∷ xs) zero reach value (suc n) i h = refl
stored-outside (x ∷ xs) (suc number) reach value zero i h = refl
stored-outside (x ∷ xs) (suc number) reach value (suc n) i h = stored-outside xs number reach value n i (λ e. h (ap suc e))

-- what a piece of a register's value is
unfoldable part : Piece → ℕ → ℕ
part p value = value / 2 ^ p.low % 2 ^ p.width

part-lt : (p : Piece) (value : ℕ) → part p value < 2 ^ p.width
unfolding part
part-lt p value = mod-lt (value / 2 ^ p.low) (pow_pos p.width)

part-bit : (p : Piece) (value i : ℕ) → i < p.width → bit i (part p value) ≡ bit (p.low + i) value
unfolding part
part-bit p value i h = bit-mod i p.width (value / 2 ^ p.low) h ∙ bit-shr i p.low value

-- a bit in the reach is one of the piece's
reach-low : (p : Piece) (i : ℕ) → bit i (piece_reach p) ≡ 1 → p.low ≤ i
unfolding piece_reach
reach-low p i e =
    by-test (ltb i p.low)
    (λ t. let z : ◌≡◌ {A = ℕ} 0 1 = sym (bit_below i p.low _ (ltb-true i p.low t)) ∙ e in omega arith)
    (λ t. ltb-false i p.low t)

reach-high : (p : Piece) (j : ℕ) → bit (p.low + j) (piece_reach p) ≡ 1 → j < p.width
unfolding piece_reach
reach-high p j e =
    by-test (ltb j p.width) (λ t. ltb-true j p.width t)
    (λ t. let z : ◌≡◌ {A = ℕ} 0 1 = sym (bit-shl j p.low (2 ^ p.width - 1) ∙ bit-above j p.width (2 ^ p.width - 1) (ones_lt p.width) (ltb-false j p.width t)) ∙ e in omega arith)

-- the bits of a piece are in its reach
reach-in : (p : Piece) (i : ℕ) → i < p.width → bit (p.low + i) (piece_reach p) ≡ 1
unfolding piece_reach
reach-in p i h = bit-shl i p.low (2 ^ p.width - 1) ∙ bit-ones i p.width h

-- two values that agree in the reach agree in the piece
part_same : (p : Piece) (a b : ℕ) → ((i : ℕ) → bit i (piece_reach p) ≡ 1 → bit i a ≡ bit i b) → part p a ≡ part p b
part_same p a b h =
    by-low-bits p.width (part p a) (part p b) (part-lt p a) (part-lt p b)
    (λ i l. part-bit p a i l ∙ h (p.low + i) (reach-in p i l) ∙ sym (part-bit p b i l))

-- what a piece takes up, where it lies, it holds
part_placed : (p : Piece) (n : ℕ) → part p (n % 2 ^ p.width * 2 ^ p.low) ≡ n % 2 ^ p.width
part_placed p n =
    by-low-bits p.width (part p (n % 2 ^ p.width * 2 ^ p.low)) (n % 2 ^ p.width) (part-lt p (n % 2 ^ p.width * 2 ^ p.low))
    (mod-lt n (pow_pos p.width))
    (λ i l. part-bit p (n % 2 ^ p.width * 2 ^ p.low) i l ∙ bit-shl i p.low (n % 2 ^ p.width))

-- a `put` keeps the number of registers
pub put-length : (p : Piece) (n : ℕ) (registers : List ℕ) → length (put p n registers) ≡ length registers
unfolding put
put-length p n registers = simp length-set

-- it takes no more of a number than the piece has bits
pub put_low : (p : Piece) (n : ℕ) (registers : List ℕ) → put p (n % 2 ^ p.width) registers ≡ put p n registers
unfolding put
put_low p n registers =
    ap (λ (x : ℕ). set registers p.register (store (piece_reach p) (get_or registers p.register 0) (x * 2 ^ p.low)))
    (mod-mod n (2 ^ p.width))

-- it leaves every bit outside the piece's reach
pub put-outside : (p : Piece) (n : ℕ) (registers : List ℕ) (r i : ℕ) → (r ≡ p.register → bit i (piece_reach p) ≡ 0)
    → bit i (get_or (put p n registers) r 0) ≡ bit i (get_or registers r 0)
unfolding put
put-outside p n registers r i h = stored-outside registers p.register (piece_reach p) (n % 2 ^ p.width * 2 ^ p.low) r i h

-- the piece holds what was put there
pub held-put : (p : Piece) (n : ℕ) (registers : List ℕ) → p.register < length registers
    → held (put p n registers) p ≡ n % 2 ^ p.width
unfolding held put part
held-put p n registers h =
    ap (part p) (get_or-set_same registers p.register (store (piece_reach p) old new) 0 h)
    ∙ part_same p (store (piece_reach p) old new) new (λ i e. inside i (piece_reach p) old new e)
    ∙ part_placed p n
  where
    old : ℕ
    old = get_or registers p.register 0

    new : ℕ
    new = n % 2 ^ p.width * 2 ^ p.low

-- a piece holds the same where its reach does
pub held_same : (p : Piece) (a b : List ℕ)
    → ((i : ℕ) → bit i (piece_reach p) ≡ 1 → bit i (get_or a p.register 0) ≡ bit i (get_or b p.register 0)) → held a p ≡ held b p
unfolding held part
held_same p a b h = part_same p (get_or a p.register 0) (get_or b p.register 0) h

-- a value's own part, put back where it lies, is the value inside the reach
part-back : (p : Piece) (value i : ℕ) → bit i (piece_reach p) ≡ 1 → bit i (part p value % 2 ^ p.width * 2 ^ p.low) ≡ bit i value
part-back p value i e =
    ap (λ (k : ℕ). bit k (part p value % 2 ^ p.width * 2 ^ p.low)) (sym at)
    ∙ bit-shl j p.low (part p value % 2 ^ p.width)
    ∙ bit-mod j p.width (part p value) within
    ∙ part-bit p value j within
    ∙ ap (λ (k : ℕ). bit k value) at
  where
    j : ℕ
    j = i - p.low

    at : p.low + j ≡ i
    at = add-sub_of_le (reach-low p i e)

    within : j < p.width
    within = reach-high p j (ap (λ (k : ℕ). bit k (piece_reach p)) at ∙ e)

store-back : (p : Piece) (old : ℕ) → store (piece_reach p) old (part p old % 2 ^ p.width * 2 ^ p.low) ≡ old
store-back p old =
    by_bits (store (piece_reach p) old new) old (λ i. by_value i (bit i (piece_reach p)) (bit-lt i (piece_reach p)) refl)
  where
    new : ℕ
    new = part p old % 2 ^ p.width * 2 ^ p.low

    by_value : (i x : ℕ) → x < 2 → bit i (piece_reach p) ≡ x → bit i (store (piece_reach p) old new) ≡ bit i old
    by_value i x h =
        by_bit (λ (x : ℕ). bit i (piece_reach p) ≡ x → bit i (store (piece_reach p) old new) ≡ bit i old)
        (λ e. outside i (piece_reach p) old new e)
        (λ e. inside i (piece_reach p) old new e ∙ part-back p old i e) x h

-- putting back what a piece holds changes nothing
pub put-held : (p : Piece) (registers : List ℕ) → put p (held registers p) registers ≡ registers
unfolding put held part
put-held p registers =
    ap (set registers p.register) (store-back p (get_or registers p.register 0))
    ∙ set-get_or registers p.register 0
