-- 02, 12/13: 'the two whole numbers in lowest terms'.
-- Assumes nothing.
use Rattle.std.specs.Prelude.{ℕ, zero, suc, ◌/◌, ◌%◌, Bool, true, false, cond, ◌&&◌, eqb}
use Rattle.clock.specs.declared.terms.Terms.{Terms}

-- a number divides both others
unfoldable pub divides_both : ℕ → ℕ → ℕ → Bool
divides_both d a b = eqb (a % d) 0 && eqb (b % d) 0

-- the largest number, up to the first, that divides both others; 0 if there is none
unfoldable pub largest_divisor : ℕ → ℕ → ℕ → ℕ
largest_divisor zero a b = zero
largest_divisor (suc k) a b = elim (divides_both (suc k) a b) [ true ↦ suc k | false ↦ largest_divisor k a b ]

-- the greatest common divisor of two numbers, of which the second is not 0: none is larger than that
unfoldable pub common_divisor : ℕ → ℕ → ℕ
common_divisor a b = largest_divisor b a b

-- where there is no rate both are 0
unfoldable pub no_terms : Terms
no_terms = record { p = 0; q = 0 }

-- a divided by b in lowest terms, p/q; none of a division by 0
unfoldable pub lowest : ℕ → ℕ → Terms
lowest a b = cond (eqb b 0) no_terms (record { p = a / common_divisor a b; q = b / common_divisor a b })
