-- For a host in C: the bytes of a rest are those of the file that they are, so a file that is put back as it was taken leaves every byte. With `held_back` parts and file
-- are one thing.
-- Assumes nothing.
use Prim.Native.Nat.{ℕ, zero, suc, ◌+◌, ◌*◌, ◌/◌, ◌%◌, ◌≤◌, ◌<◌}
use mathlib.Core.Path.{◌≡◌, refl, sym, ap, ◌∙◌}
use mathlib.Core.Bool.{Bool, true, ◌&&◌}
use mathlib.Core.List.{List, [], ◌∷◌, ◌++◌, append_assoc}
use native.Mathlib.Nat.{add-zero, add-suc, suc-add}
use native.Mathlib.Omega.{arith}
use lib.Dec.{T, leb, leb→le}
use lib.ListN.{length, get_or, take, drop, length-drop, take-append-drop}
use lib.Seq.{drop-cons, drop-drop, length-take-le, take_all}
use Rattle.bits.proofs.Test.{left, right, passes}
use Rattle.image.specs.Bytes.{colour_bytes, colours_in, flag_byte, is_set}
use Rattle.image.specs.Parts.{chip_byte, chip_in, state_bytes, state_in, fits_in, rest_of, held_in, rest_count}

-- ---- colours, flags and the chip as they were written

colours-kept : (n : ℕ) (bytes : List ℕ) → length bytes ≡ 3 * n → colour_bytes (colours_in bytes) ≡ bytes
unfolding colour_bytes colours_in
colours-kept n [] e = refl
colours-kept n (a ∷ []) e = absurd (omega (arith, e))
colours-kept n (a ∷ b ∷ []) e = absurd (omega (arith, e))
colours-kept zero (a ∷ b ∷ c ∷ bytes) e = absurd (omega (arith, e))
colours-kept (suc n) (a ∷ b ∷ c ∷ bytes) e = ap (λ (l : List ℕ). a ∷ b ∷ c ∷ l) (colours-kept n bytes (omega (arith, e)))

flag-kept : (byte : ℕ) → T (leb byte 1) → flag_byte (is_set byte) ≡ byte
unfolding flag_byte is_set
flag-kept zero t = refl
flag-kept (suc zero) t = refl
flag-kept (suc (suc n)) t = absurd (omega (arith, leb→le (suc (suc n)) 1 t))

chip-kept : (byte : ℕ) → T (leb byte 1) → chip_byte (chip_in byte) ≡ byte
unfolding chip_byte chip_in
chip-kept zero t = refl
chip-kept (suc zero) t = refl
chip-kept (suc (suc n)) t = absurd (omega (arith, leb→le (suc (suc n)) 1 t))

-- ---- so many values of a list from a place on

values : ℕ → ℕ → List ℕ → List ℕ
values k zero l = []
values k (suc n) l = get_or l k 0 ∷ values (suc k) n l

values-kept : (k n : ℕ) (l : List ℕ) → k + n ≤ length l → values k n l ++ drop (k + n) l ≡ drop k l
unfolding values
values-kept k zero l h = ap (λ (j : ℕ). drop j l) (add-zero k)
values-kept k (suc n) l h =
    ap (λ (j : ℕ). get_or l k 0 ∷ (values (suc k) n l ++ drop j l)) (add-suc k n ∙ sym (suc-add k n))
    ∙ ap (λ (xs : List ℕ). get_or l k 0 ∷ xs) (values-kept (suc k) n l (omega (arith, h)))
    ∙ sym (drop-cons l k 0 (omega (arith, h)))

-- ---- a rest

module _ (words bytes : List ℕ) (long : length bytes ≡ rest_count) (fit : fits_in bytes ≡ true) (low : get_or bytes 0 0 < 256) where
  abbrev mode : Bool
  mode = leb (get_or bytes 3 0) 1

  abbrev toggle : Bool
  toggle = leb (get_or bytes 8 0) 1

  abbrev chip : Bool
  chip = leb (get_or bytes 9 0) 1

  fits : T (mode && toggle && chip)
  unfolding fits_in
  fits = passes _ fit

  state-kept : state_bytes (state_in bytes) ≡ values 0 10 bytes
  unfolding state_bytes state_in values
  state-kept =
      λ i. line_low i
      ∷ line-high i
      ∷ get_or bytes 2 0
      ∷ flag-kept (get_or bytes 3 0) (left mode toggle (left (mode && toggle) chip fits)) i
      ∷ get_or bytes 4 0
      ∷ get_or bytes 5 0
      ∷ get_or bytes 6 0
      ∷ get_or bytes 7 0
      ∷ flag-kept (get_or bytes 8 0) (right mode toggle (left (mode && toggle) chip fits)) i
      ∷ chip-kept (get_or bytes 9 0) (right (mode && toggle) chip fits) i
      ∷ []
    where
      line_low : (get_or bytes 0 0 + 256 * get_or bytes 1 0) % 256 ≡ get_or bytes 0 0
      line_low = omega (arith, low)

      line-high : (get_or bytes 0 0 + 256 * get_or bytes 1 0) / 256 ≡ get_or bytes 1 0
      line-high = omega (arith, low)

  palette-kept : colour_bytes (colours_in (take 768 (drop 10 bytes))) ≡ take 768 (drop 10 bytes)
  palette-kept = colours-kept 256 (take 768 (drop 10 bytes)) (length-take-le 768 (drop 10 bytes) (omega (arith, length-drop 10 bytes, long)))

  last : drop 778 bytes ≡ drop 768 (drop 10 bytes)
  last = sym (drop-drop 768 10 bytes)

  bank-kept : colour_bytes (colours_in (take 48 (drop 778 bytes))) ≡ drop 768 (drop 10 bytes)
  bank-kept =
      let all : take 48 (drop 778 bytes) ≡ drop 778 bytes = take_all 48 (drop 778 bytes) (omega (arith, length-drop 778 bytes, long)) in
      ap (λ (l : List ℕ). colour_bytes (colours_in l)) all ∙ colours-kept 16 (drop 778 bytes) (length-drop 778 bytes ∙ omega (arith, long)) ∙ last

  pub rest-kept : rest_of (held_in words bytes) ≡ bytes
  unfolding rest_of held_in
  rest-kept =
      (λ i. state-kept i ++ palette-kept i ++ bank-kept i)
      ∙ append_assoc (values 0 10 bytes) (take 768 (drop 10 bytes)) (drop 768 (drop 10 bytes))
      ∙ ap (λ (l : List ℕ). values 0 10 bytes ++ l) (take-append-drop 768 (drop 10 bytes))
      ∙ values-kept 0 10 bytes (omega (arith, long))
