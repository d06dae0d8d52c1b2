-- The bits that each timing number is read from, as the code's table has them. Assumes nothing.
use Prim.Native.Nat.{ℕ, zero, suc, ◌+◌, ◌-◌, ◌*◌, ◌≤◌, ◌<◌}
use mathlib.Core.Bool.{Bool, true, false, ◌&&◌}
use mathlib.Core.List.{List, [], ◌∷◌}
use mathlib.Core.Path.{◌≡◌, refl, sym, ap, ap₂, ◌∙◌}
use native.Mathlib.Omega.{arith}
use borrow.Author.Tests.{ne_eqb}
use lib.Bits.{and_zero_r}
use lib.Dec.{T, leb, leb→le}
use lib.ListN.{get_or, get_or-eq_default}
use Rattle.bits.specs.Pieces.{Piece, width}
use Rattle.bits.specs.Reach.{pieces_reach}
use Rattle.bits.proofs.Test.{left, right}
use Rattle.file.specs.Names.{CR0, CR1A, CR1E}
use Rattle.timing.specs.Table.{table, wide}
use Rattle.explaining.specs.declared.explain.Case.{Case}
use Rattle.explaining.specs.Explained.{number_line, part_line}
use Rattle.explaining.specs.Lines.{blank}
use Rattle.explaining.specs.Moves.{may_move, moved_bits, moved_from, moved_table, number_count, origin, read_bits, source, sources, start_of, switched}

-- every piece lies in CR0 to CR1E
unfoldable within : List Piece → Bool
within [] = true
within (p ∷ ps) = (leb CR0 p.register && leb p.register CR1E) && within ps

inside : (wide : Bool) (k : ℕ) → T (within (origin wide k))
unfolding within origin source sources start_of switched width table
inside true zero = tt
inside true (suc zero) = tt
inside true (suc (suc zero)) = tt
inside true (suc (suc (suc zero))) = tt
inside true (suc (suc (suc (suc zero)))) = tt
inside true (suc (suc (suc (suc (suc zero))))) = tt
inside true (suc (suc (suc (suc (suc (suc zero)))))) = tt
inside true (suc (suc (suc (suc (suc (suc (suc zero))))))) = tt
inside true (suc (suc (suc (suc (suc (suc (suc (suc zero)))))))) = tt
inside true (suc (suc (suc (suc (suc (suc (suc (suc (suc zero))))))))) = tt
inside true (suc (suc (suc (suc (suc (suc (suc (suc (suc (suc zero)))))))))) = tt
inside true (suc (suc (suc (suc (suc (suc (suc (suc (suc (suc (suc zero))))))))))) = tt
inside true (suc (suc (suc (suc (suc (suc (suc (suc (suc (suc (suc (suc zero)))))))))))) = tt
inside true (suc (suc (suc (suc (suc (suc (suc (suc (suc (suc (suc (suc (suc zero))))))))))))) = tt
inside true (suc (suc (suc (suc (suc (suc (suc (suc (suc (suc (suc (suc (suc (suc zero)))))))))))))) = tt
inside false zero = tt
inside false (suc zero) = tt
inside false (suc (suc zero)) = tt
inside false (suc (suc (suc zero))) = tt
inside false (suc (suc (suc (suc zero)))) = tt
inside false (suc (suc (suc (suc (suc zero))))) = tt
inside false (suc (suc (suc (suc (suc (suc zero)))))) = tt
inside false (suc (suc (suc (suc (suc (suc (suc zero))))))) = tt
inside false (suc (suc (suc (suc (suc (suc (suc (suc zero)))))))) = tt
inside false (suc (suc (suc (suc (suc (suc (suc (suc (suc zero))))))))) = tt
inside false (suc (suc (suc (suc (suc (suc (suc (suc (suc (suc zero)))))))))) = tt
inside false (suc (suc (suc (suc (suc (suc (suc (suc (suc (suc (suc zero))))))))))) = tt
inside false (suc (suc (suc (suc (suc (suc (suc (suc (suc (suc (suc (suc zero)))))))))))) = tt
inside false (suc (suc (suc (suc (suc (suc (suc (suc (suc (suc (suc (suc (suc zero))))))))))))) = tt
inside false (suc (suc (suc (suc (suc (suc (suc (suc (suc (suc (suc (suc (suc (suc zero)))))))))))))) = tt
inside true (suc (suc (suc (suc (suc (suc (suc (suc (suc (suc (suc (suc (suc (suc (suc k))))))))))))))) = tt
inside false (suc (suc (suc (suc (suc (suc (suc (suc (suc (suc (suc (suc (suc (suc (suc k))))))))))))))) = tt

none_below : (ps : List Piece) → T (within ps) → (number : ℕ) → number < CR0 → pieces_reach ps number ≡ 0
unfolding within pieces_reach
none_below [] t number h = refl
none_below (p ∷ ps) t number h =
    rw (ne_eqb number p.register (λ e. omega (arith, e, h, leb→le CR0 p.register (left (leb CR0 p.register) (leb p.register CR1E) (left (leb CR0 p.register && leb p.register CR1E) (within ps) t)))))
    (none_below ps (right (leb CR0 p.register && leb p.register CR1E) (within ps) t) number h)

none_above : (ps : List Piece) → T (within ps) → (number : ℕ) → CR1E < number → pieces_reach ps number ≡ 0
unfolding within pieces_reach
none_above [] t number h = refl
none_above (p ∷ ps) t number h =
    rw (ne_eqb number p.register (λ e. omega (arith, e, h, leb→le p.register CR1E (right (leb CR0 p.register) (leb p.register CR1E) (left (leb CR0 p.register && leb p.register CR1E) (within ps) t)))))
    (none_above ps (right (leb CR0 p.register && leb p.register CR1E) (within ps) t) number h)

pub read_below : (wide : Bool) (number k : ℕ) → number < CR0 → 0 ≡ read_bits wide number k
unfolding read_bits
read_below wide number k h = sym (none_below (origin wide k) (inside wide k) number h)

pub read_above : (wide : Bool) (number k : ℕ) → CR1E < number → 0 ≡ read_bits wide number k
unfolding read_bits
read_above wide number k h = sym (none_above (origin wide k) (inside wide k) number h)

-- a narrow file leaves CR1A's pieces out, and no others
narrow : (number k : ℕ) → (number ≡ CR1A → ⊥) → read_bits false number k ≡ read_bits true number k
unfolding read_bits origin source sources start_of switched width table pieces_reach
narrow number zero n = refl
narrow number (suc zero) n = refl
narrow number (suc (suc zero)) n = refl
narrow number (suc (suc (suc zero))) n = rw (ne_eqb number CR1A n)
narrow number (suc (suc (suc (suc zero)))) n = refl
narrow number (suc (suc (suc (suc (suc zero))))) n = refl
narrow number (suc (suc (suc (suc (suc (suc zero)))))) n = refl
narrow number (suc (suc (suc (suc (suc (suc (suc zero))))))) n = refl
narrow number (suc (suc (suc (suc (suc (suc (suc (suc zero)))))))) n = refl
narrow number (suc (suc (suc (suc (suc (suc (suc (suc (suc zero))))))))) n = rw (ne_eqb number CR1A n)
narrow number (suc (suc (suc (suc (suc (suc (suc (suc (suc (suc zero)))))))))) n = refl
narrow number (suc (suc (suc (suc (suc (suc (suc (suc (suc (suc (suc zero))))))))))) n = refl
narrow number (suc (suc (suc (suc (suc (suc (suc (suc (suc (suc (suc (suc zero)))))))))))) n = refl
narrow number (suc (suc (suc (suc (suc (suc (suc (suc (suc (suc (suc (suc (suc zero))))))))))))) n = refl
narrow number (suc (suc (suc (suc (suc (suc (suc (suc (suc (suc (suc (suc (suc (suc zero)))))))))))))) n = refl
narrow number (suc (suc (suc (suc (suc (suc (suc (suc (suc (suc (suc (suc (suc (suc (suc k))))))))))))))) n = refl

pub narrow-none : (k : ℕ) → 0 ≡ read_bits false CR1A k
unfolding read_bits origin source sources start_of switched width table pieces_reach
narrow-none zero = refl
narrow-none (suc zero) = refl
narrow-none (suc (suc zero)) = refl
narrow-none (suc (suc (suc zero))) = refl
narrow-none (suc (suc (suc (suc zero)))) = refl
narrow-none (suc (suc (suc (suc (suc zero))))) = refl
narrow-none (suc (suc (suc (suc (suc (suc zero)))))) = refl
narrow-none (suc (suc (suc (suc (suc (suc (suc zero))))))) = refl
narrow-none (suc (suc (suc (suc (suc (suc (suc (suc zero)))))))) = refl
narrow-none (suc (suc (suc (suc (suc (suc (suc (suc (suc zero))))))))) = refl
narrow-none (suc (suc (suc (suc (suc (suc (suc (suc (suc (suc zero)))))))))) = refl
narrow-none (suc (suc (suc (suc (suc (suc (suc (suc (suc (suc (suc zero))))))))))) = refl
narrow-none (suc (suc (suc (suc (suc (suc (suc (suc (suc (suc (suc (suc zero)))))))))))) = refl
narrow-none (suc (suc (suc (suc (suc (suc (suc (suc (suc (suc (suc (suc (suc zero))))))))))))) = refl
narrow-none (suc (suc (suc (suc (suc (suc (suc (suc (suc (suc (suc (suc (suc (suc zero)))))))))))))) = refl
narrow-none (suc (suc (suc (suc (suc (suc (suc (suc (suc (suc (suc (suc (suc (suc (suc k))))))))))))))) = refl

pub either_way : (wide : Bool) (number k : ℕ) → (number ≡ CR1A → ⊥) → read_bits wide number k ≡ read_bits true number k
either_way true number k n = refl
either_way false number k n = narrow number k n

-- the table, entry by entry
moved_at : (n count i : ℕ) → i < count → get_or (moved_from n count) i 0 ≡ moved_bits (n + i)
unfolding moved_from
moved_at n zero i h = absurd (omega arith)
moved_at n (suc count) zero h = ap moved_bits (omega arith)
moved_at n (suc count) (suc i) h = moved_at (suc n) count i (omega arith) ∙ ap moved_bits (omega arith)

pub moved-entry : (number k : ℕ) → CR0 ≤ number → number ≤ CR1E → k < number_count
    → get_or moved_table (number_count * (number - CR0) + k) 0 ≡ read_bits true number k
unfolding moved_table moved_bits
moved-entry number k low high small =
    moved_at 0 450 (number_count * (number - CR0) + k) (omega (arith, low, high, small))
    ∙ ap₂ (read_bits true) (omega (arith, low, high, small)) (omega (arith, low, high, small))

-- there are fifteen numbers, and no line of another
no_source : (wide : Bool) (k : ℕ) → number_count ≤ k → source wide k ≡ []
unfolding source sources start_of table
no_source true k h = get_or-eq_default (sources [] (table true)) [] {n = k} h
no_source false k h = get_or-eq_default (sources [] (table false)) [] {n = k} h

none_after : (wide : Bool) (number k : ℕ) → number_count ≤ k → read_bits wide number k ≡ 0
unfolding read_bits origin switched width pieces_reach
none_after wide number k h = rw (no_source wide k h, no_source true k h, no_source false k h) refl

pub no_number : (c : Case) (k : ℕ) → number_count ≤ k → number_line c k ≡ blank
unfolding number_line may_move part_line
no_number c k h = rw (none_after (wide c.before) c.reach.register k h, and_zero_r c.reach.bits) refl
