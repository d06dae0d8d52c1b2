-- Bytes stored into a list, seen from a part of it, and a colour's three bytes as an entry. Assumes nothing.
use Prim.Native.Nat.{ℕ, zero, suc, ◌+◌, ◌*◌, ◌≤◌}
use mathlib.Core.Path.{◌≡◌, refl, sym, ap, ◌∙◌}
use mathlib.Core.List.{List, [], ◌∷◌}
use native.Mathlib.Nat.{add-suc}
use native.Mathlib.Omega.{arith}
use lib.ListN.{length, get_or, set, take, drop}
use lib.Seq.{sets, drop-set-add, drop-set-lt, take-set-le, take-set-lt}
use Rattle.file.specs.declared.palette.Colour.{Colour}
use Rattle.file.specs.File.{black}
use Rattle.image.specs.Bytes.{colour_bytes, colours_in}

module _ {A : Type 0} where
  -- behind n
  pub drop-sets-add : (n i : ℕ) (l vs : List A) → drop n (sets l (n + i) vs) ≡ sets (drop n l) i vs
  drop-sets-add n i l [] = refl
  drop-sets-add n i l (v ∷ vs) =
      ap (λ (k : ℕ). drop n (sets (set l (n + i) v) k vs)) (sym (add-suc n i))
      ∙ drop-sets-add n (suc i) (set l (n + i) v) vs
      ∙ ap (λ (x : List A). sets x (suc i) vs) (drop-set-add n l i v)

  pub drop-sets-below : (n i : ℕ) (l vs : List A) → i + length vs ≤ n → drop n (sets l i vs) ≡ drop n l
  drop-sets-below n i l [] h = refl
  drop-sets-below n i l (v ∷ vs) h = drop-sets-below n (suc i) (set l i v) vs (omega (arith, h)) ∙ drop-set-lt n l i v (omega (arith, h))

  -- before n
  pub take-sets-above : (n i : ℕ) (l vs : List A) → n ≤ i → take n (sets l i vs) ≡ take n l
  take-sets-above n i l [] h = refl
  take-sets-above n i l (v ∷ vs) h = take-sets-above n (suc i) (set l i v) vs (omega (arith, h)) ∙ take-set-le n l i v h

  pub take-sets : (n i : ℕ) (l vs : List A) → i + length vs ≤ n → take n (sets l i vs) ≡ sets (take n l) i vs
  take-sets n i l [] h = refl
  take-sets n i l (v ∷ vs) h = take-sets n (suc i) (set l i v) vs (omega (arith, h)) ∙ ap (λ (x : List A). sets x (suc i) vs) (take-set-lt n l i v (omega (arith, h)))

-- ---- a colour among bytes

thrice : (n : ℕ) → 3 * suc n ≡ suc (suc (suc (3 * n)))
thrice n = omega arith

pub coloured : (bytes : List ℕ) (n : ℕ) (c : Colour) → 3 * n + 3 ≤ length bytes → colours_in (sets bytes (3 * n) (colour_bytes (c ∷ []))) ≡ set (colours_in bytes) n c
unfolding colours_in colour_bytes
coloured [] n c h = absurd (omega (arith, h))
coloured (a ∷ []) n c h = absurd (omega (arith, h))
coloured (a ∷ b ∷ []) n c h = absurd (omega (arith, h))
coloured (a ∷ b ∷ d ∷ bytes) zero c h = refl
coloured (a ∷ b ∷ d ∷ bytes) (suc n) c h =
    ap (λ (k : ℕ). colours_in (sets (a ∷ b ∷ d ∷ bytes) k (c.red ∷ c.green ∷ c.blue ∷ []))) (thrice n)
    ∙ ap (λ (cs : List Colour). record { red = a; green = b; blue = d } ∷ cs) (coloured bytes n c (omega (arith, h)))

-- an entry's three bytes
pub entry-bytes : (bytes : List ℕ) (n : ℕ) → 3 * n + 3 ≤ length bytes
    → get_or (colours_in bytes) n black ≡ record { red = get_or bytes (3 * n) 0; green = get_or bytes (suc (3 * n)) 0; blue = get_or bytes (suc (suc (3 * n))) 0 }
unfolding colours_in
entry-bytes [] n h = absurd (omega (arith, h))
entry-bytes (a ∷ []) n h = absurd (omega (arith, h))
entry-bytes (a ∷ b ∷ []) n h = absurd (omega (arith, h))
entry-bytes (a ∷ b ∷ d ∷ bytes) zero h = refl
entry-bytes (a ∷ b ∷ d ∷ bytes) (suc n) h =
    entry-bytes bytes n (omega (arith, h))
    ∙ ap (λ (k : ℕ). record { red = get_or (a ∷ b ∷ d ∷ bytes) k 0; green = get_or (a ∷ b ∷ d ∷ bytes) (suc k) 0; blue = get_or (a ∷ b ∷ d ∷ bytes) (suc (suc k)) 0 }) (sym (thrice n))
