-- The split field: a number in a list of pieces that are disjoint and lie in registers that are there, both tested by computing.
-- Assumes nothing.
use Rattle.std.proofs.Common.{◌≡◌, ℕ, ◌+◌, ◌*◌, ◌/◌, ◌%◌, ◌^◌, ◌<◌, min, max, Bool, true, false, cond, T, eqb, ltb, List, [], ◌∷◌, ◌++◌, length, get_or, sym, refl, ap, ◌∙◌, subst, ap₂, mod-lt, arith, lit<, eqb→eq, ltb→lt, pow_pos, pow-add, eq-eqb, eqb-true}
use native.Mathlib.Nat.{mod-one}
use borrow.Author.Tests.{eqb-false}
use lib.Arith.{digits_lt}
use lib.Bits.{bit_and, bit_or}
use lib.Pow.{mod-pow-add, mod-mod-pow, field, high, low}
use Rattle.bits.specs.Pieces.{Piece, width, held, gather, piece_reach, put, scatter}
use Rattle.bits.specs.Reach.{pieces_reach, disjoint, present}
use Rattle.bits.specs.Store.{bit}
use Rattle.bits.proofs.Bit.{by_bit, by_bits, bit-lt, bit-and, bit-or, bit-of-zero}
use Rattle.bits.proofs.Piece.{put-length, put_low, put-outside, held-put, held_same, put-held}
use Rattle.bits.proofs.Test.{left, right, both, by-test}

-- a bit that a piece reaches, of any register
unfoldable own : Piece → ℕ → ℕ → ℕ
own p r i = cond (eqb r p.register) (bit i (piece_reach p)) 0

own-lt : (p : Piece) (r i : ℕ) → own p r i < 2
unfolding own
own-lt p r i = by-choice (eqb r p.register)
  where
    by-choice : (b : Bool) → cond b (bit i (piece_reach p)) 0 < 2
    by-choice true = bit-lt i (piece_reach p)
    by-choice false = lit< tt

own-here : (p : Piece) (r i : ℕ) → r ≡ p.register → own p r i ≡ bit i (piece_reach p)
unfolding own
own-here p r i e = ap (λ (b : Bool). cond b (bit i (piece_reach p)) 0) (eq-eqb r p.register e)

own-register : (p : Piece) (r i : ℕ) → own p r i ≡ 1 → r ≡ p.register
unfolding own
own-register p r i e = by-test (eqb r p.register) (λ t. eqb-true r p.register t) (λ t. never (rw t at e))
  where
    never : ◌≡◌ {A = ℕ} 0 1 → r ≡ p.register
    never z = absurd (omega arith)

reach-none : (r i : ℕ) → bit i (pieces_reach [] r) ≡ 0
unfolding pieces_reach
reach-none r i = bit-of-zero i

-- what pieces reach is what the first reaches and what the others do
reach-bit : (p : Piece) (ps : List Piece) (r i : ℕ) → bit i (pieces_reach (p ∷ ps) r) ≡ max (own p r i) (bit i (pieces_reach ps r))
unfolding pieces_reach own
reach-bit p ps r i = by-choice (eqb r p.register)
  where
    by-choice : (b : Bool)
        → bit i (cond b (bit_or (piece_reach p) (pieces_reach ps r)) (pieces_reach ps r)) ≡ max (cond b (bit i (piece_reach p)) 0) (bit i (pieces_reach ps r))
    by-choice true = bit-or i (piece_reach p) (pieces_reach ps r)
    by-choice false = omega arith

pub reach-append : (ps qs : List Piece) (r i : ℕ) → bit i (pieces_reach (ps ++ qs) r) ≡ max (bit i (pieces_reach ps r)) (bit i (pieces_reach qs r))
reach-append [] qs r i = omega (arith, reach-none r i)
reach-append (p ∷ ps) qs r i = omega (arith, reach-bit p (ps ++ qs) r i, reach-bit p ps r i, reach-append ps qs r i)

-- where a piece reaches, those disjoint from it don't
pub apart : (a b i : ℕ) → T (eqb (bit_and a b) 0) → bit i a ≡ 1 → bit i b ≡ 0
apart a b i t e =
    by_bit (λ (x : ℕ). min 1 x ≡ 0 → x ≡ 0) (λ _. refl) (λ z. z) (bit i b) (bit-lt i b)
    (ap (λ (x : ℕ). min x (bit i b)) (sym e) ∙ sym (bit-and i a b) ∙ ap (bit i) (eqb→eq (bit_and a b) 0 t) ∙ bit-of-zero i)

-- and two numbers that share no bit are disjoint
no-meeting : (a b : ℕ) → ((i : ℕ) → bit i a ≡ 1 → bit i b ≡ 0) → T (eqb (bit_and a b) 0)
no-meeting a b h =
    subst (λ (x : ℕ). T (eqb x 0))
    (sym (by_bits (bit_and a b) 0 (λ i. bit-and i a b ∙ clear i (bit i a) (bit-lt i a) refl ∙ sym (bit-of-zero i)))) tt
  where
    clear : (i x : ℕ) → x < 2 → bit i a ≡ x → min (bit i a) (bit i b) ≡ 0
    clear i x l =
        by_bit (λ (x : ℕ). bit i a ≡ x → min (bit i a) (bit i b) ≡ 0) (λ e. omega arith) (λ e. omega (arith, h i e)) x l

-- a scatter keeps the number of registers
pub scatter-length : (ps : List Piece) (n : ℕ) (registers : List ℕ) → length (scatter ps n registers) ≡ length registers
unfolding scatter
scatter-length [] n registers = refl
scatter-length (p ∷ ps) n registers =
    scatter-length ps n (put p (n / 2 ^ width ps) registers) ∙ put-length p (n / 2 ^ width ps) registers

-- it moves no bit outside the pieces
pub scatter-outside : (ps : List Piece) (n : ℕ) (registers : List ℕ) (r i : ℕ) → bit i (pieces_reach ps r) ≡ 0
    → bit i (get_or (scatter ps n registers) r 0) ≡ bit i (get_or registers r 0)
unfolding scatter
scatter-outside [] n registers r i e = refl
scatter-outside (p ∷ ps) n registers r i e =
    scatter-outside ps n (put p (n / 2 ^ width ps) registers) r i (omega (arith, reach-bit p ps r i))
    ∙ put-outside p (n / 2 ^ width ps) registers r i (λ same. sym (own-here p r i same) ∙ omega (arith, reach-bit p ps r i))

-- a number of these pieces fits their width
pub gather-lt : (ps : List Piece) (registers : List ℕ) → gather registers ps < 2 ^ width ps
unfolding gather width held
gather-lt [] registers = lit< tt
gather-lt (p ∷ ps) registers =
    subst (λ (x : ℕ). held registers p * 2 ^ width ps + gather registers ps < x) (sym (pow-add 2 p.width (width ps)))
    (digits_lt (mod-lt (get_or registers p.register 0 / 2 ^ p.low) (pow_pos p.width)) (gather-lt ps registers))

-- a gather gives the same where what the pieces reach is the same
pub gather-same : (ps : List Piece) (a b : List ℕ)
    → ((r i : ℕ) → bit i (pieces_reach ps r) ≡ 1 → bit i (get_or a r 0) ≡ bit i (get_or b r 0)) → gather a ps ≡ gather b ps
unfolding gather
gather-same [] a b h = refl
gather-same (p ∷ ps) a b h =
    ap₂ (λ (x y : ℕ). x * 2 ^ width ps + y)
    (held_same p a b (λ i e. h p.register i (omega (arith, reach-bit p ps p.register i, own-here p p.register i refl, bit-lt i (pieces_reach ps p.register), e))))
    (gather-same ps a b (λ r i e. h r i (omega (arith, reach-bit p ps r i, own-lt p r i, e))))

-- of disjoint pieces, what the first ones reach the others don't
pub across : (ps qs : List Piece) → T (disjoint (ps ++ qs)) → (r i : ℕ) → bit i (pieces_reach ps r) ≡ 1 → bit i (pieces_reach qs r) ≡ 0
unfolding disjoint
across [] qs t r i e = absurd (omega (arith, reach-none r i))
across (p ∷ ps) qs t r i e =
    by-test (eqb (own p r i) 1)
    (λ o. first (eqb-true (own p r i) 1 o))
    (λ o. across ps qs (right (eqb (bit_and (piece_reach p) (pieces_reach (ps ++ qs) p.register)) 0) (disjoint (ps ++ qs)) t) r i
    (omega (arith, reach-bit p ps r i, own-lt p r i, eqb-false (own p r i) 1 o)))
  where
    clear : own p r i ≡ 1 → bit i (pieces_reach (ps ++ qs) p.register) ≡ 0
    clear o =
        apart (piece_reach p) (pieces_reach (ps ++ qs) p.register) i
        (left (eqb (bit_and (piece_reach p) (pieces_reach (ps ++ qs) p.register)) 0) (disjoint (ps ++ qs)) t)
        (sym (own-here p r i (own-register p r i o)) ∙ o)

    first : own p r i ≡ 1 → bit i (pieces_reach qs r) ≡ 0
    first o =
        omega (arith, reach-append ps qs r i, ap (λ (k : ℕ). bit i (pieces_reach (ps ++ qs) k)) (own-register p r i o) ∙ clear o)

-- parts of disjoint pieces are disjoint
pub disjoint_left : (ps qs : List Piece) → T (disjoint (ps ++ qs)) → T (disjoint ps)
unfolding disjoint
disjoint_left [] qs t = tt
disjoint_left (p ∷ ps) qs t =
    both (eqb (bit_and (piece_reach p) (pieces_reach ps p.register)) 0) (disjoint ps)
    (no-meeting (piece_reach p) (pieces_reach ps p.register) (λ i e. omega (arith, reach-append ps qs p.register i, meets i e)))
    (disjoint_left ps qs (right (eqb (bit_and (piece_reach p) (pieces_reach (ps ++ qs) p.register)) 0) (disjoint (ps ++ qs)) t))
  where
    meets : (i : ℕ) → bit i (piece_reach p) ≡ 1 → bit i (pieces_reach (ps ++ qs) p.register) ≡ 0
    meets i e =
        apart (piece_reach p) (pieces_reach (ps ++ qs) p.register) i
        (left (eqb (bit_and (piece_reach p) (pieces_reach (ps ++ qs) p.register)) 0) (disjoint (ps ++ qs)) t) e

pub disjoint_right : (ps qs : List Piece) → T (disjoint (ps ++ qs)) → T (disjoint qs)
unfolding disjoint
disjoint_right [] qs t = t
disjoint_right (p ∷ ps) qs t =
    disjoint_right ps qs (right (eqb (bit_and (piece_reach p) (pieces_reach (ps ++ qs) p.register)) 0) (disjoint (ps ++ qs)) t)

pub present-left : (count : ℕ) (ps qs : List Piece) → T (present count (ps ++ qs)) → T (present count ps)
unfolding present
present-left count [] qs t = tt
present-left count (p ∷ ps) qs t =
    both (ltb p.register count) (present count ps)
    (left (ltb p.register count) (present count (ps ++ qs)) t)
    (present-left count ps qs (right (ltb p.register count) (present count (ps ++ qs)) t))

pub present-right : (count : ℕ) (ps qs : List Piece) → T (present count (ps ++ qs)) → T (present count qs)
unfolding present
present-right count [] qs t = t
present-right count (p ∷ ps) qs t = present-right count ps qs (right (ltb p.register count) (present count (ps ++ qs)) t)

-- a scatter does not disturb pieces that are disjoint from its own
pub undisturbed : (ps qs : List Piece) (n : ℕ) (registers : List ℕ)
    → ((r i : ℕ) → bit i (pieces_reach qs r) ≡ 1 → bit i (pieces_reach ps r) ≡ 0) → gather (scatter ps n registers) qs ≡ gather registers qs
undisturbed ps qs n registers h =
    gather-same qs (scatter ps n registers) registers (λ r i e. scatter-outside ps n registers r i (h r i e))

-- gathering what was scattered gives the number's low bits
pub gather-scatter : (ps : List Piece) (n : ℕ) (registers : List ℕ) → T (disjoint ps) → T (present (length registers) ps)
    → gather (scatter ps n registers) ps ≡ n % 2 ^ width ps
unfolding gather scatter width disjoint present
gather-scatter [] n registers d l = sym (mod-one n)
gather-scatter (p ∷ ps) n registers d l =
    ap₂ (λ (x y : ℕ). x * 2 ^ width ps + y)
    (held_same p (scatter ps n next) next
    (λ i e. scatter-outside ps n next p.register i
    (apart (piece_reach p) (pieces_reach ps p.register) i (left (eqb (bit_and (piece_reach p) (pieces_reach ps p.register)) 0) (disjoint ps) d) e))
    ∙ held-put p (n / 2 ^ width ps) registers
    (ltb→lt p.register (length registers) (left (ltb p.register (length registers)) (present (length registers) ps) l)))
    (gather-scatter ps n next (right (eqb (bit_and (piece_reach p) (pieces_reach ps p.register)) 0) (disjoint ps) d)
    (subst (λ (k : ℕ). T (present k ps)) (sym (put-length p (n / 2 ^ width ps) registers))
    (right (ltb p.register (length registers)) (present (length registers) ps) l)))
    ∙ sym (mod-pow-add n p.width (width ps))
  where
    next : List ℕ
    next = put p (n / 2 ^ width ps) registers

-- a scatter takes no more of a number than its low bits
pub scatter-low : (ps : List Piece) (n : ℕ) (registers : List ℕ) → scatter ps (n % 2 ^ width ps) registers ≡ scatter ps n registers
unfolding scatter width
scatter-low [] n registers = refl
scatter-low (p ∷ ps) n registers =
    sym (scatter-low ps (n % 2 ^ (p.width + width ps)) (put p (n % 2 ^ (p.width + width ps) / 2 ^ width ps) registers))
    ∙ ap₂ (scatter ps) (mod-mod-pow n p.width (width ps))
    (ap (λ (x : ℕ). put p x registers) (field n p.width (width ps)) ∙ put_low p (n / 2 ^ width ps) registers)
    ∙ scatter-low ps n (put p (n / 2 ^ width ps) registers)

-- scattering what was gathered changes nothing
pub scatter-gather : (ps : List Piece) (registers : List ℕ) → scatter ps (gather registers ps) registers ≡ registers
unfolding scatter gather
scatter-gather [] registers = refl
scatter-gather (p ∷ ps) registers =
    ap (scatter ps number)
    (ap (λ (x : ℕ). put p x registers) (high (held registers p) (width ps) (gather-lt ps registers)) ∙ put-held p registers)
    ∙ sym (scatter-low ps number registers)
    ∙ ap (λ (x : ℕ). scatter ps x registers) (low (held registers p) (width ps) (gather-lt ps registers))
    ∙ scatter-gather ps registers
  where
    number : ℕ
    number = held registers p * 2 ^ width ps + gather registers ps
