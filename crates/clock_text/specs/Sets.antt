-- 02, 12/13: 'A program reads many register sets, 3 bytes each (denominator byte, numerator byte with bit 7 clear, zero)'; what each says, and
-- what is counted of them.
-- Assumes nothing.
use Rattle.std.specs.Prelude.{ℕ, ◌+◌, ◌*◌, ◌/◌, Bool, cond, not, ◌||◌, List, [], ◌∷◌, Option, Some, None, Result, Ok, Err, eqb, ltb, length}
use Rattle.bits.specs.Store.{bit}
use Rattle.clock.specs.declared.terms.Terms.{Terms}
use Rattle.clock.specs.Clock.{denominator, terms_of}
use Rattle.file.specs.declared.answer.Answer.{Answer}
use Rattle.file.specs.declared.answer.Answer.TheVariants.{Malformed}
use Rattle.clock_text.specs.declared.tally.Tally.{Tally}

-- a rate in lowest terms, that there is none, or that the set is refused
abbrev pub SetClock : Type 0
SetClock = Result (Option Terms) Answer

-- 'Refusals: 2 for .. a set bit 7 or a third byte not 0'; 'either a rate or that there is none, which is so exactly when the denominator is 0'
unfoldable pub set_clock : ℕ → ℕ → ℕ → SetClock
set_clock d n z =
    cond (eqb (bit 7 n) 1 || not (eqb z 0)) (Err Malformed)
    (cond (eqb (denominator d) 0) (Ok None) (Ok (Some (terms_of d n))))

-- three bytes are a set
unfoldable pub set_of : List ℕ → SetClock
set_of [] = Err Malformed
set_of (d ∷ []) = Err Malformed
set_of (d ∷ n ∷ []) = Err Malformed
set_of (d ∷ n ∷ z ∷ []) = set_clock d n z
set_of (d ∷ n ∷ z ∷ more ∷ rest) = Err Malformed

-- one after the other, and a refused one for a fragment of 1 or 2 bytes at the end
unfoldable pub set_clocks : List ℕ → List SetClock
set_clocks [] = []
set_clocks (d ∷ []) = Err Malformed ∷ []
set_clocks (d ∷ n ∷ []) = Err Malformed ∷ []
set_clocks (d ∷ n ∷ z ∷ rest) = set_clock d n z ∷ set_clocks rest

-- how many there are
unfoldable pub set_count : List ℕ → ℕ
set_count input = (length input + 2) / 3

-- 'by whole-number comparison': a rate is below another
unfoldable pub below : Terms → Terms → Bool
below a b = ltb (a.p * b.q) (b.p * a.q)

-- the better of two rates by a test, or the only one
unfoldable pub better : (Terms → Terms → Bool) → Option Terms → Terms → Terms
better test None new = new
better test (Some old) new = cond (test old new) new old

abbrev pub larger : Option Terms → Terms → Terms
larger = better below

abbrev pub smaller : Option Terms → Terms → Terms
smaller = better (λ (x y : Terms). below y x)

-- nothing counted yet
unfoldable pub no_tally : Tally
no_tally = record { rates = 0; nones = 0; refused = 0; largest = None; smallest = None }

-- 'the counts of rates, nones and refused sets, and the largest and smallest rate': one set more
unfoldable pub counting : Tally → SetClock → Tally
counting t (Ok (Some new)) =
    record {
      rates = t.rates + 1;
      nones = t.nones;
      refused = t.refused;
      largest = Some (larger t.largest new);
      smallest = Some (smaller t.smallest new);
    }
counting t (Ok None) =
    record { rates = t.rates; nones = t.nones + 1; refused = t.refused; largest = t.largest; smallest = t.smallest }
counting t (Err answer) =
    record { rates = t.rates; nones = t.nones; refused = t.refused + 1; largest = t.largest; smallest = t.smallest }

unfoldable pub tallied : Tally → List SetClock → Tally
tallied t [] = t
tallied t (c ∷ cs) = tallied (counting t c) cs
