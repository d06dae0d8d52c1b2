-- How long the lines are at most: a set's line 15 bytes, the summary 131. Assumes nothing.
use Rattle.std.specs.Prelude.{Option, Some, None, Ok, Err}
use Prim.Native.Nat.{ℕ, suc, ◌+◌, ◌*◌, ◌^◌, ◌≤◌, ◌<◌}
use mathlib.Core.Bool.{not, ◌||◌}
use mathlib.Core.List.{List, [], ◌∷◌, ◌++◌}
use mathlib.Core.Path.{◌≡◌, refl}
use native.Mathlib.Nat.{div-le_self, le_trans}
use native.Mathlib.Omega.{arith}
use lib.Dec.{eqb, lit<}
use lib.ListN.{length, length-append}
use Rattle.bits.specs.Store.{bit}
use Rattle.bits.proofs.Test.{by-test}
use Rattle.file.specs.declared.answer.Answer.TheVariants.{Malformed}
use Rattle.file.specs.Answers.{code_of}
use Rattle.file.specs.Readers.{ascii}
use Rattle.text.specs.Text.{decimal, decimal_places, newline, space}
use Rattle.text.proofs.Places.{most-places}
use Rattle.text.proofs.Spelled.{digits-length}
use Rattle.clock.specs.declared.terms.Terms.{Terms}
use Rattle.clock.specs.Clock.{denominator, divisor, product, terms_of}
use Rattle.clock.specs.Lowest.{common_divisor, lowest, no_terms}
use Rattle.clock.proofs.RateRounds.{divisor-most, product-most}
use Rattle.clock_text.specs.declared.tally.Tally.{Tally}
use Rattle.clock_text.specs.Parts.{summary_most}
use Rattle.clock_text.specs.Report.{clock_line, clock_lines, clock_text, counts_line, rate_text, summary, terms_text}
use Rattle.clock_text.specs.Sets.{SetClock, set_clock, set_clocks, set_count}

-- a number below 10^j has at most j digits
pub decimal-most : (j n : ℕ) → n < 10 ^ suc j → length (decimal n) ≤ suc j
unfolding decimal
decimal-most j n h = rw digits-length (most-places j n n h)

pub terms-length : (t : Terms) → length (terms_text t) ≡ length (decimal t.p) + 1 + length (decimal t.q)
unfolding terms_text ascii
terms-length t = simp length-append (omega arith)

pub line-length : (c : SetClock) → length (clock_line c) ≡ length (clock_text c) + 1
unfolding clock_line newline
line-length c = simp length-append (omega arith)

-- lowest terms are no larger than the two numbers
lowest-over : (a b : ℕ) → (lowest a b).p ≤ a
unfolding lowest no_terms
lowest-over a b = by-test (eqb b 0) (λ t. rw t (omega arith)) (λ t. rw t (div-le_self a (common_divisor a b)))

lowest-under : (a b : ℕ) → (lowest a b).q ≤ b
unfolding lowest no_terms
lowest-under a b = by-test (eqb b 0) (λ t. rw t (omega arith)) (λ t. rw t (div-le_self b (common_divisor a b)))

terms-over : (d n : ℕ) → (terms_of d n).p ≤ 1818408860
unfolding terms_of no_terms
terms-over d n =
    by-test (eqb (denominator d) 0) (λ t. rw t (omega arith))
    (λ t. rw t (le_trans (lowest-over (product n) (divisor d)) (product-most n)))

terms-under : (d n : ℕ) → (terms_of d n).q ≤ 254
unfolding terms_of no_terms
terms-under d n =
    by-test (eqb (denominator d) 0) (λ t. rw t (omega arith))
    (λ t. rw t (le_trans (lowest-under (product n) (divisor d)) (divisor-most d)))

-- ten digits, a slash, three digits and a newline
rate-most : (d n : ℕ) → length (clock_line (Ok (Some (terms_of d n)))) ≤ 15
unfolding clock_text rate_text
rate-most d n =
    omega (
      arith,
      line-length (Ok (Some (terms_of d n))),
      terms-length (terms_of d n),
      decimal-most 9 (terms_of d n).p (omega (arith, terms-over d n)),
      decimal-most 2 (terms_of d n).q (omega (arith, terms-under d n)),
    )

none-most : length (clock_line (Ok None)) ≤ 15
unfolding clock_line clock_text rate_text ascii newline
none-most = omega arith

refused-most : length (clock_line (Err Malformed)) ≤ 15
unfolding clock_line clock_text code_of decimal decimal_places newline
refused-most = omega arith

line-most : (d n z : ℕ) → length (clock_line (set_clock d n z)) ≤ 15
unfolding set_clock
line-most d n z =
    by-test (eqb (bit 7 n) 1 || not (eqb z 0)) (λ t. rw t refused-most)
    (λ t. rw t (by-test (eqb (denominator d) 0) (λ e. rw e none-most) (λ e. rw e (rate-most d n))))

pub lines-most : (input : List ℕ) → length (clock_lines (set_clocks input)) ≤ 15 * set_count input
unfolding clock_lines set_clocks set_count
lines-most [] = omega arith
lines-most (d ∷ []) = rw length-append (omega (arith, refused-most))
lines-most (d ∷ n ∷ []) = rw length-append (omega (arith, refused-most))
lines-most (d ∷ n ∷ z ∷ rest) = rw length-append (omega (arith, line-most d n z, lines-most rest))

-- a rate's numbers, as their type has them
unfoldable pub SizedRate : Option Terms → Type 0
SizedRate None = Unit {0}
SizedRate (Some t) = (t.p < 2 ^ 32) × (t.q < 2 ^ 32)

-- two numbers of ten digits and a slash, or none
rate-text-most : (rate : Option Terms) → SizedRate rate → length (rate_text rate) ≤ 21
unfolding rate_text ascii SizedRate
rate-text-most None s = omega arith
rate-text-most (Some t) s = omega (arith, terms-length t, decimal-most 9 t.p (omega (arith, s.0)), decimal-most 9 t.q (omega (arith, s.1)))

-- a tally's numbers, as its type has them
pub record Sized (t : Tally) : Type 0 where
  pub rates : t.rates < 2 ^ 64
  pub nones : t.nones < 2 ^ 64
  pub refused : t.refused < 2 ^ 64
  pub largest : SizedRate t.largest
  pub smallest : SizedRate t.smallest

pub counts-length : (t : Tally) → length (counts_line t) ≡ 7 + length (decimal t.rates) + 1 + length (decimal t.nones) + 1 + length (decimal t.refused) + 1
unfolding counts_line ascii space newline
counts-length t = simp length-append (omega arith)

pub rate-line-length : (word : List ℕ) (rate : Option Terms) → length (word ++ rate_text rate ++ newline) ≡ length word + length (rate_text rate) + 1
unfolding newline
rate-line-length word rate = simp length-append (omega arith)

pub summary-length : (t : Tally) → length (summary t)
    ≡ length (counts_line t) + length (ascii "largest " ++ rate_text t.largest ++ newline) + length (ascii "smallest " ++ rate_text t.smallest ++ newline)
unfolding summary
summary-length t = rw (length-append, length-append) refl

pub summary-most : (t : Tally) → Sized t → length (summary t) ≤ summary_most
unfolding summary_most ascii
summary-most t s =
    omega (
      arith,
      summary-length t,
      counts-length t,
      rate-line-length (ascii "largest ") t.largest,
      rate-line-length (ascii "smallest ") t.smallest,
      decimal-most 19 t.rates (omega (arith, s.rates, lit< {m = 18446744073709551615} {n = 10 ^ 20} tt)),
      decimal-most 19 t.nones (omega (arith, s.nones, lit< {m = 18446744073709551615} {n = 10 ^ 20} tt)),
      decimal-most 19 t.refused (omega (arith, s.refused, lit< {m = 18446744073709551615} {n = 10 ^ 20} tt)),
      rate-text-most t.largest s.largest,
      rate-text-most t.smallest s.smallest,
    )
