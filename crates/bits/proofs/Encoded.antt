-- Pieces and rows as plain numbers: a piece lies in the 16 bits of its register, and what a turn of a loop over the pieces does. Assumes nothing.
use Rattle.std.proofs.Common.{◌≡◌, ℕ, ◌+◌, ◌-◌, ◌*◌, ◌/◌, ◌%◌, ◌^◌, ◌<◌, ◌≤◌, min, List, [], ◌∷◌, map, length, get_or, drop, set, refl, sym, ap, ◌∙◌, ap₂, lt_of_lt_of_le, mod-lt, mod-eq_of_lt, mul_assoc, mul_comm, add-mul, one-mul, div-add-mod', zero-mul, add-one, arith, lit<, drop_of_length-le, drop-cons, pow_pos, pow_mono, pow-add, shl_lt, shl_exact}
use native.Mathlib.Nat.{mod-add-mod, add-mul-mod_self_right, zero-div, zero-mod}
use lib.Bits.{bit_and, and_mask}
use lib.ListN.{get_or-eq_default}
use lib.Pow.{ones_lt}
use lib.Seq.{set_out}
use Rattle.std.specs.Prelude.{Option, Some, None, unwrap_or}
use Rattle.std.specs.Option.{SomeIff}
use Rattle.bits.specs.Encoded.{piece_of}
use Rattle.bits.specs.Pieces.{Piece, width, held, gather, piece_reach, put, scatter}
use Rattle.bits.specs.Store.{store}
use Rattle.bits.proofs.Enough.{shift-enough, shifted-out}

pub in-register : (n : ℕ) → (piece_of n).width + (piece_of n).low ≤ 16
unfolding piece_of
in-register n = omega arith

pub low_below : (n : ℕ) → (piece_of n).low < 16
unfolding piece_of
low_below n = omega arith

-- what a piece's mask leaves, shifted to its place, is within the register
placed_below : (n x : ℕ) → x < 2 ^ (piece_of n).width → x * 2 ^ (piece_of n).low < 2 ^ 16
placed_below n x h = lt_of_lt_of_le (shl_lt (piece_of n).width (piece_of n).low h) (pow_mono (in-register n))

placed-whole : (n x : ℕ) → x < 2 ^ (piece_of n).width → (x * 2 ^ (piece_of n).low) % 2 ^ 32 ≡ x * 2 ^ (piece_of n).low
placed-whole n x h = shl_exact (piece_of n).width (piece_of n).low 32 h (omega (arith, in-register n))

pub reach-below : (n : ℕ) → (2 ^ (piece_of n).width - 1) * 2 ^ (piece_of n).low < 2 ^ 16
reach-below n = placed_below n (2 ^ (piece_of n).width - 1) (ones_lt (piece_of n).width)

pub reach-whole : (n : ℕ) → ((2 ^ (piece_of n).width - 1) * 2 ^ (piece_of n).low) % 2 ^ 32 ≡ (2 ^ (piece_of n).width - 1) * 2 ^ (piece_of n).low
reach-whole n = placed-whole n (2 ^ (piece_of n).width - 1) (ones_lt (piece_of n).width)

pub value-below : (n number : ℕ) → number % 2 ^ (piece_of n).width * 2 ^ (piece_of n).low < 2 ^ 16
value-below n number = placed_below n (number % 2 ^ (piece_of n).width) (mod-lt number (pow_pos (piece_of n).width))

pub value-whole : (n number : ℕ)
    → (bit_and number (2 ^ (piece_of n).width - 1) * 2 ^ (piece_of n).low) % 2 ^ 32 ≡ number % 2 ^ (piece_of n).width * 2 ^ (piece_of n).low
value-whole n number =
    ap (λ (x : ℕ). (x * 2 ^ (piece_of n).low) % 2 ^ 32) (and_mask number (piece_of n).width)
    ∙ placed-whole n (number % 2 ^ (piece_of n).width) (mod-lt number (pow_pos (piece_of n).width))

pub ones-whole : (n : ℕ) → (1 * 2 ^ (piece_of n).width) % 2 ^ 32 ≡ 2 ^ (piece_of n).width
ones-whole n = shl_exact 1 (piece_of n).width 32 (lit< tt) (omega (arith, in-register n)) ∙ one-mul (2 ^ (piece_of n).width)

-- a list from one element on: that one, and those behind it
pub from_next : (list : List ℕ) (k : ℕ) → k < length list → drop k list ≡ get_or list k 0 ∷ drop (k + 1) list
from_next list k h = drop-cons list k 0 h ∙ ap (λ (n : ℕ). get_or list k 0 ∷ drop n list) (sym (add-one k))

next-piece : (pieces : List ℕ) (k : ℕ) → k < length pieces
    → map piece_of (drop k pieces) ≡ piece_of (get_or pieces k 0) ∷ map piece_of (drop (k + 1) pieces)
next-piece pieces k h = ap (map piece_of) (from_next pieces k h)

-- a product and a sum modulo m see no more of a number than its low part
mod-linear : (a b c m : ℕ) → (a % m * b + c) % m ≡ (a * b + c) % m
mod-linear a b c m =
    sym (add-mul-mod_self_right (a % m * b + c) (a / m * b) m)
    ∙ ap (λ (x : ℕ). x % m) (omega (arith, whole))
  where
    swapped : a / m * b * m ≡ a / m * m * b
    swapped = mul_assoc (a / m) b m ∙ ap (λ (x : ℕ). a / m * x) (mul_comm b m) ∙ sym (mul_assoc (a / m) m b)

    whole : a % m * b + a / m * b * m ≡ a * b
    whole = ap (λ (x : ℕ). a % m * b + x) swapped ∙ omega (arith, add-mul (a / m * m) (a % m) b, ap (λ (x : ℕ). x * b) (div-add-mod' a m))

-- one piece more taken into a number, modulo m
pub taken_in : (registers : List ℕ) (p : Piece) (ps : List Piece) (number m : ℕ)
    → (((number * 2 ^ p.width) % m + held registers p) % m * 2 ^ width ps + gather registers ps) % m
    ≡ (number * 2 ^ width (p ∷ ps) + gather registers (p ∷ ps)) % m
unfolding width gather
taken_in registers p ps number m =
    ap (λ (x : ℕ). (x * 2 ^ width ps + gather registers ps) % m) (mod-add-mod (number * 2 ^ p.width) m (held registers p))
    ∙ mod-linear (number * 2 ^ p.width + held registers p) (2 ^ width ps) (gather registers ps) m
    ∙ ap (λ (x : ℕ). x % m)
    (omega (arith, add-mul (number * 2 ^ p.width) (held registers p) (2 ^ width ps), mul_assoc number (2 ^ p.width) (2 ^ width ps), ap (λ (x : ℕ). number * x) (pow-add 2 p.width (width ps))))

-- in a register that is not there a piece holds 0 and takes nothing
pub held-absent : (registers : List ℕ) (n : ℕ) → length registers ≤ n / 256 → held registers (piece_of n) ≡ 0
unfolding held piece_of
held-absent registers n h =
    ap (λ (x : ℕ). x / 2 ^ (n % 16) % 2 ^ (piece_of n).width) (get_or-eq_default registers 0 h)
    ∙ ap (λ (x : ℕ). x % 2 ^ (piece_of n).width) (zero-div (2 ^ (n % 16)))
    ∙ zero-mod (2 ^ (piece_of n).width)

pub put-absent : (registers : List ℕ) (n number : ℕ) → length registers ≤ n / 256 → put (piece_of n) number registers ≡ registers
unfolding put piece_of
put-absent registers n number h = set_out registers (n / 256) _ h

-- the shifts and masks of code make a `put`
pub put-shifted : (registers : List ℕ) (n number : ℕ)
    → set registers (n / 256)
    (store (((2 ^ (piece_of n).width - 1) * 2 ^ (piece_of n).low) % 2 ^ 32) (get_or registers (n / 256) 0) ((bit_and number (2 ^ (piece_of n).width - 1) * 2 ^ (piece_of n).low) % 2 ^ 32))
    ≡ put (piece_of n) number registers
unfolding put piece_reach piece_of
put-shifted registers n number =
    ap₂ (λ (reach value : ℕ). set registers (n / 256) (store reach (get_or registers (n / 256) 0) value)) (reach-whole n) (value-whole n number)

-- none is left from the end on
none_left : (pieces : List ℕ) (k : ℕ) → length pieces ≤ k → map piece_of (drop k pieces) ≡ []
none_left pieces k h = ap (map piece_of) (drop_of_length-le pieces h)

-- a number with the pieces from k on behind it, modulo m
unfoldable pub followed : List ℕ → List ℕ → ℕ → ℕ → ℕ → ℕ
followed registers pieces m number k =
    (number * 2 ^ width (map piece_of (drop k pieces)) + gather registers (map piece_of (drop k pieces))) % m

-- it stays the same where the next piece is taken in
pub followed-next : (registers pieces : List ℕ) (m number k bits held-there next : ℕ) → k < length pieces
    → bits ≡ (piece_of (get_or pieces k 0)).width → held-there ≡ held registers (piece_of (get_or pieces k 0))
    → next ≡ ((number * 2 ^ bits) % m + held-there) % m → followed registers pieces m next (k + 1) ≡ followed registers pieces m number k
unfolding followed
followed-next registers pieces m number k bits held-there next l w h e =
    rw (e, w, h, next-piece pieces k l) (taken_in registers (piece_of (get_or pieces k 0)) (map piece_of (drop (k + 1) pieces)) number m)

pub followed-first : (registers pieces : List ℕ) (m : ℕ) → followed registers pieces m 0 0 ≡ gather registers (map piece_of pieces) % m
unfolding followed
followed-first registers pieces m = ap (λ (x : ℕ). x % m) (omega (arith, zero-mul (2 ^ width (map piece_of pieces))))

pub followed-last : (registers pieces : List ℕ) (m number k : ℕ) → length pieces ≤ k → number < m → followed registers pieces m number k ≡ number
unfolding followed width gather
followed-last registers pieces m number k l h = rw (none_left pieces k l) (ap (λ (x : ℕ). x % m) (omega arith) ∙ mod-eq_of_lt h)

-- the width of the pieces from k on, one piece at a time
pub width-next : (pieces : List ℕ) (k : ℕ) → k < length pieces
    → width (map piece_of (drop k pieces)) ≡ (piece_of (get_or pieces k 0)).width + width (map piece_of (drop (k + 1) pieces))
unfolding width
width-next pieces k h = ap width (next-piece pieces k h)

pub width-last : (pieces : List ℕ) (k : ℕ) → length pieces ≤ k → width (map piece_of (drop k pieces)) ≡ 0
unfolding width
width-last pieces k h = ap width (none_left pieces k h)

-- a number without its lowest bits, as code shifts it: nothing is left where there are 32 of them
shifted : (number below : ℕ) (by-code : Option ℕ) → number < 2 ^ 32 → SomeIff by-code (below < 32) (number / 2 ^ below)
    → unwrap_or by-code 0 ≡ number / 2 ^ below
shifted number below None h none = let past : 32 ≤ below = omega arith in sym (shifted-out number below h past)
shifted number below (Some x) h some = some.1

-- the pieces set to a number, one piece at a time
pub scatter-next : (number piece : ℕ) (below registers next : List ℕ) (bits : ℕ) (by-code : Option ℕ) (part : ℕ) → number < 2 ^ 32
    → bits ≡ min 32 (width (map piece_of below)) → SomeIff by-code (bits < 32) (number / 2 ^ bits) → part ≡ unwrap_or by-code 0
    → next ≡ put (piece_of piece) part registers
    → scatter (map piece_of below) number next ≡ scatter (map piece_of (piece ∷ below)) number registers
unfolding scatter
scatter-next number piece below registers next bits by-code part h b s p e =
    ap (scatter (map piece_of below) number)
    (e ∙ ap (λ (x : ℕ). put (piece_of piece) x registers)
    (p ∙ shifted number bits by-code h s ∙ ap (λ (x : ℕ). number / 2 ^ x) b ∙ shift-enough number (width (map piece_of below)) h))

-- and none is left in the end
pub scatter-last : (pieces registers : List ℕ) (number : ℕ) → length pieces ≡ 0 → scatter (map piece_of pieces) number registers ≡ registers
unfolding scatter
scatter-last [] registers number e = refl
scatter-last (p ∷ ps) registers number e = absurd (omega arith)
