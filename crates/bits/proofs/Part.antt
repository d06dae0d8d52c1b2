-- A part of a list by a start and a count, both cut off at the list's end. Assumes nothing.
use Rattle.std.proofs.Common.{◌≡◌, ℕ, ◌+◌, ◌-◌, ◌<◌, ◌≤◌, min, leb, List, length, take, drop, sym, ap, ◌∙◌, arith, length-drop, drop_of_length-le, take_all, leb-false, leb-true}
use Rattle.bits.proofs.Test.{by-test}

-- more than a list has is all of it
take-clipped : (l : List ℕ) (n count : ℕ) → n ≡ min count (length l) → take n l ≡ take count l
take-clipped l n count e =
    by-test (leb count (length l))
    (λ t. ap (λ (k : ℕ). take k l) (whole (leb-true count (length l) t)))
    (λ t. take_all n l (omega (arith, leb-false count (length l) t)) ∙ sym (take_all count l (omega (arith, leb-false count (length l) t))))
  where
    whole : count ≤ length l → n ≡ count
    whole h = omega arith

drop-clipped : (l : List ℕ) (at : ℕ) → drop (min at (length l)) l ≡ drop at l
drop-clipped l at =
    by-test (leb at (length l))
    (λ t. ap (λ (k : ℕ). drop k l) (whole (leb-true at (length l) t)))
    (λ t. none (leb-false at (length l) t))
  where
    whole : at ≤ length l → min at (length l) ≡ at
    whole h = omega arith

    none : length l < at → drop (min at (length l)) l ≡ drop at l
    none h =
        let e : min at (length l) ≡ length l = omega arith in
        let long : length l ≤ at = omega arith in
        let all : length l ≤ min at (length l) = omega arith in
        drop_of_length-le l all ∙ sym (drop_of_length-le l long)

pub part-clipped : (l : List ℕ) (at count start end : ℕ) → start ≡ min at (length l) → end ≡ min (start + count) (length l)
    → take (end - start) (drop start l) ≡ take count (drop at l)
part-clipped l at count start end s e =
    take-clipped (drop start l) (end - start) count (omega (arith, length-drop start l))
    ∙ ap (take count) (ap (λ (k : ℕ). drop k l) s ∙ drop-clipped l at)
