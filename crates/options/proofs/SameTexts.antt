-- Two texts that `==` compares are the same list. Assumes nothing.
use Rattle.std.proofs.Common.{◌≡◌, ℕ, Bool, true, false, not, ◌&&◌, eqb, List, [], ◌∷◌, length, refl, sym, ap, ap₂, ◌∙◌, arith}
use borrow.Author.Tests.{eq-eqb, eqb-false, eqb-true, ne_eqb, not-false, not-true}
use Rattle.bits.proofs.Test.{by-test}
use Rattle.std.specs.Str.{bytes_eq}
use Rattle.file.specs.Readers.{same}

pub same-told : (xs ys : List ℕ) → bytes_eq xs ys ≡ same xs ys
unfolding same
same-told [] [] = refl
same-told [] (y ∷ ys) = refl
same-told (x ∷ xs) [] = refl
same-told (x ∷ xs) (y ∷ ys) = ap (λ (b : Bool). eqb x y && b) (same-told xs ys)

-- what `==` told of two texts
pub told-same : {told said : Bool} (xs ys : List ℕ) → told ≡ bytes_eq xs ys → told ≡ said → same xs ys ≡ said
told-same xs ys e s = sym (e ∙ same-told xs ys) ∙ s

-- an empty text
pub same-empty : (xs : List ℕ) → eqb (length xs) 0 ≡ same xs []
unfolding same
same-empty [] = refl
same-empty (x ∷ xs) = ne_eqb (length (x ∷ xs)) 0 (λ e. omega (arith, e))

-- what `!=` told of them
pub told-differs : {told : Bool} (xs ys : List ℕ) → told ≡ not (bytes_eq xs ys) → told ≡ true → same xs ys ≡ false
told-differs xs ys e t = sym (same-told xs ys) ∙ not-true (bytes_eq xs ys) (sym e ∙ t)

pub told-alike : {told : Bool} (xs ys : List ℕ) → told ≡ not (bytes_eq xs ys) → told ≡ false → same xs ys ≡ true
told-alike xs ys e t = sym (same-told xs ys) ∙ not-false (bytes_eq xs ys) (sym e ∙ t)

pub not-same : (xs ys : List ℕ) → not (bytes_eq xs ys) ≡ not (same xs ys)
not-same xs ys = ap not (same-told xs ys)

eqb_turned : (x y : ℕ) → eqb x y ≡ eqb y x
eqb_turned x y =
    by-test (eqb x y) (λ t. t ∙ sym (eq-eqb y x (sym (eqb-true x y t)))) (λ t. t ∙ sym (ne_eqb y x (λ e. eqb-false x y t (sym e))))

-- the texts the other way round
pub same-turned : (xs ys : List ℕ) → bytes_eq xs ys ≡ same ys xs
unfolding same
same-turned [] [] = refl
same-turned [] (y ∷ ys) = refl
same-turned (x ∷ xs) [] = refl
same-turned (x ∷ xs) (y ∷ ys) = ap₂ (λ (a b : Bool). a && b) (eqb_turned x y) (same-turned xs ys)

-- what the test of an empty text told
pub told-empty : {told said : Bool} (xs : List ℕ) → told ≡ eqb (length xs) 0 → told ≡ said → same xs [] ≡ said
told-empty xs e s = sym (e ∙ same-empty xs) ∙ s
