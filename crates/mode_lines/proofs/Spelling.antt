-- Numbers as the kit's digits, and several of them, each behind a space. Assumes nothing.
use Prim.Native.Nat.{ℕ, zero, suc, ◌+◌, ◌-◌, ◌^◌, ◌≤◌, ◌<◌}
use mathlib.Core.List.{List, [], ◌∷◌, ◌++◌, append_assoc, append-nil}
use mathlib.Core.Path.{◌≡◌, sym, ap, ◌∙◌, subst}
use native.Mathlib.Numerals.{add-one}
use native.Mathlib.Omega.{arith}
use lib.ListN.{length, get_or, take}
use lib.Seq.{take-suc}
use Rattle.io.specs.Digits.{last_digits, IsDigitCount}
use Rattle.text.specs.Text.{decimal, decimal_places, signed, space, spaced}
use Rattle.text.proofs.Places.{one_place, so-many}

-- as many digits as a number has
fewest-places : (n k : ℕ) → IsDigitCount 10 1 n k → k ≡ decimal_places n n
fewest-places n zero f = absurd (omega (arith, f.0))
fewest-places n (suc zero) f = sym (one_place n n (omega (arith, f.1)))
fewest-places n (suc (suc k)) f =
    let less : suc (suc k) - 1 ≡ suc k = omega arith in
    so-many (suc k) n (subst (λ (j : ℕ). 10 ^ j ≤ n) less (f.2 (omega arith))) f.1

pub fewest-decimal : (n k : ℕ) → IsDigitCount 10 1 n k → last_digits 10 k n ≡ decimal n
unfolding decimal
fewest-decimal n k f = ap (λ (j : ℕ). last_digits 10 j n) (fewest-places n k f)

-- one number more
pub spaced-more : (a : List ℕ) (n : ℕ) → spaced [] (a ++ n ∷ []) ≡ spaced [] a ++ (space ++ decimal n)
unfolding spaced signed
spaced-more [] n = append-nil (space ++ decimal n)
spaced-more (m ∷ a) n =
    ap (λ (l : List ℕ). (space ++ decimal m) ++ l) (spaced-more a n) ∙ sym (append_assoc (space ++ decimal m) (spaced [] a) (space ++ decimal n))

pub spaced-next : (numbers : List ℕ) (i : ℕ) → i < length numbers
    → spaced [] (take i numbers) ++ (space ++ decimal (get_or numbers i 0)) ≡ spaced [] (take (i + 1) numbers)
spaced-next numbers i h = sym (ap (spaced []) (ap (λ (k : ℕ). take k numbers) (add-one i) ∙ take-suc numbers i 0 h) ∙ spaced-more (take i numbers) (get_or numbers i 0))
