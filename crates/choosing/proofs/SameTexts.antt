-- Two texts that `==` compares are the same list. Assumes nothing.
use Rattle.std.proofs.Common.{◌≡◌, ℕ, Bool, ◌&&◌, eqb, List, [], ◌∷◌, refl, ap}
use Rattle.std.specs.Str.{bytes_eq}
use Rattle.file.specs.Readers.{same}

pub same-told : (xs ys : List ℕ) → bytes_eq xs ys ≡ same xs ys
unfolding same
same-told [] [] = refl
same-told [] (y ∷ ys) = refl
same-told (x ∷ xs) [] = refl
same-told (x ∷ xs) (y ∷ ys) = ap (λ (b : Bool). eqb x y && b) (same-told xs ys)
