-- For a host in C: 'Loading what was saved gives the same file'. And a file's words and bytes are that file.
-- Assumes nothing.
use Prim.Native.Nat.{ℕ, ◌+◌, ◌*◌, ◌/◌, ◌%◌}
use mathlib.Core.Path.{◌≡◌, refl, ap, ap₂, ◌∙◌}
use mathlib.Core.Bool.{Bool, true, false, cond}
use mathlib.Core.List.{List, [], ◌∷◌, ◌++◌, append_assoc}
use native.Mathlib.Omega.{arith}
use borrow.Author.Tests.{eq-eqb}
use lib.Dec.{T}
use lib.ListN.{length, take, drop, length-append}
use lib.Seq.{take_at, drop_at, take_all}
use Rattle.bits.proofs.Test.{is_true}
use Rattle.file.specs.declared.chip.Chip.TheVariants.{Gd5462, Gd5464}
use Rattle.file.specs.declared.palette.Colour.{Colour}
use Rattle.file.specs.declared.registers.File.{File}
use Rattle.file.specs.declared.state.State.{State}
use Rattle.file.specs.File.{palette_count, bank_count}
use Rattle.file.specs.Registers.{register_count}
use Rattle.image.specs.Bytes.{word_bytes, words_in, colour_bytes, colours_in, flag_byte, is_set}
use Rattle.image.specs.Parts.{chip_byte, chip_in, state_bytes, state_in, rest_of, held_in, sound_in, rest_count, set_count}
use Rattle.std.specs.Prelude.{Ok}
use Rattle.image.specs.Image.{image_count, heading, image_of, registers_in, rest_in, set_kept, set_part, headed, loads, loaded_from}
use Rattle.image.proofs.Filling.{words_count, colours-count}

-- ---- words, colours and flags come back

pub words_back : (words : List ℕ) → words_in (word_bytes words) ≡ words
unfolding word_bytes words_in
words_back [] = refl
words_back (word ∷ words) = ap₂ (λ (n : ℕ) (ns : List ℕ). n ∷ ns) (omega arith) (words_back words)

pub colours-back : (colours : List Colour) → colours_in (colour_bytes colours) ≡ colours
unfolding colour_bytes colours_in
colours-back [] = refl
colours-back (c ∷ colours) = ap (λ (cs : List Colour). c ∷ cs) (colours-back colours)

flag-back : (flag : Bool) → is_set (flag_byte flag) ≡ flag
unfolding is_set flag_byte
flag-back true = refl
flag-back false = refl

chip-back : (s : State) → chip_in (chip_byte s.chip) ≡ s.chip
unfolding chip_in chip_byte
chip-back s = elim s.chip as (λ c. chip_in (chip_byte c) ≡ c) [ Gd5462 ↦ refl | Gd5464 ↦ refl ]

-- ---- a file's words and bytes are that file

pub state-back : (s : State) (more : List ℕ) → state_in (state_bytes s ++ more) ≡ s
unfolding state_in state_bytes
state-back s more =
    λ i. record {
      line = line i;
      pointer = record { address = s.pointer.address; reading = flag-back s.pointer.reading i; next = s.pointer.next; red = s.pointer.red; green = s.pointer.green };
      marks = s.marks;
      toggle = flag-back s.toggle i;
      chip = chip-back s i;
    }
  where
    line : s.line % 256 + 256 * (s.line / 256) ≡ s.line
    line = omega arith

pub held_back : (f : File) → length f.palette ≡ palette_count → length f.bank ≡ bank_count → held_in f.registers (rest_of f) ≡ f
unfolding held_in rest_of state_bytes
held_back f p b =
    λ i. record {
      registers = f.registers;
      palette = (ap colours_in (take_at (colour_bytes f.palette) (colour_bytes f.bank) 768 palette-long) ∙ colours-back f.palette) i;
      bank = (ap colours_in (ap (take 48) (drop_at (colour_bytes f.palette) (colour_bytes f.bank) 768 palette-long) ∙ take_all 48 (colour_bytes f.bank) (omega (arith, bank-long))) ∙ colours-back f.bank) i;
      state = state-back f.state (colour_bytes f.palette ++ colour_bytes f.bank) i;
    }
  where
    palette-long : length (colour_bytes f.palette) ≡ 768
    palette-long = omega (arith, colours-count f.palette, p)

    bank-long : length (colour_bytes f.bank) ≡ 48
    bank-long = omega (arith, colours-count f.bank, b)

-- ---- what was saved loads

module _ (kept : Bool) (registers rest set : List ℕ) (r : length registers ≡ register_count) (q : length rest ≡ rest_count) (s : length set ≡ set_count) where
  abbrev image : List ℕ
  image = image_of kept registers rest set

  abbrev words : List ℕ
  words = word_bytes registers

  words_long : length words ≡ 216
  words_long = omega (arith, words_count registers, r)

  -- behind the heading
  behind : drop 8 image ≡ words ++ rest ++ set
  unfolding image_of heading
  behind = refl

  long : length image ≡ image_count
  unfolding image_of heading
  long = omega (arith, length-append (words ++ rest) set, length-append words rest, words_long, q, s)

  is-headed : headed image ≡ true
  unfolding headed image_of heading flag_byte
  is-headed = elim kept as (λ b. headed (image_of b registers rest set) ≡ true) [ true ↦ refl | false ↦ refl ]

  registers-back : registers_in image ≡ registers
  unfolding registers_in
  registers-back = ap (λ (l : List ℕ). words_in (take 216 l)) (behind ∙ append_assoc words rest set) ∙ ap words_in (take_at words (rest ++ set) 216 words_long) ∙ words_back registers

  rest_back : rest_in image ≡ rest
  unfolding rest_in image_of heading
  rest_back = ap (λ (l : List ℕ). take rest_count (drop 216 l)) (append_assoc words rest set) ∙ ap (take rest_count) (drop_at words (rest ++ set) 216 words_long) ∙ take_at rest set rest_count q

  set_back : set_part image ≡ set
  unfolding set_part image_of heading
  set_back = ap (take set_count) (drop_at (words ++ rest) set 1042 (length-append words rest ∙ omega (arith, words_long, q))) ∙ take_all set_count set (omega (arith, s))

  kept_back : set_kept image ≡ kept
  unfolding set_kept image_of heading
  kept_back = flag-back kept

  -- a sound file's image loads to its parts, whatever set stood there before
  pub saved-loads : T (sound_in registers rest) → (set₀ : List ℕ)
      → loaded_from image set₀ ≡ Ok (record { registers = registers; rest = rest; set = cond kept set set₀ })
  unfolding loaded_from loads
  saved-loads sound set₀ =
      rw (eq-eqb (length image) image_count long, is-headed, ap₂ sound_in registers-back rest_back ∙ is_true (sound_in registers rest) sound)
      (λ i. Ok (record { registers = registers-back i; rest = rest_back i; set = cond (kept_back i) (set_back i) set₀ }))
