-- For a host in C: the image that a file is saved as. Its first eight bytes are the mark 'SGCL', the version, whether a set is kept, and two zeros; then the registers, the
-- rest, with the chip as its tenth byte, and the set.
-- Assumes nothing.
use Rattle.std.specs.Prelude.{ℕ, Bool, cond, ◌&&◌, List, [], ◌∷◌, ◌++◌, Result, Ok, Err, eqb, leb, ltb, length, get_or, take, drop, replicate}
use Rattle.std.proofs.lemmas.List.Edits.{sets}
use Rattle.file.specs.declared.answer.Answer.{Answer}
use Rattle.file.specs.declared.answer.Answer.TheVariants.{Done, ShortBuffer, NotSound}
use Rattle.image.specs.declared.saving.Loaded.{Loaded}
use Rattle.image.specs.Bytes.{word_bytes, words_in, flag_byte, is_set}
use Rattle.image.specs.Parts.{sound_in, rest_count, set_count}

abbrev pub image_count : ℕ
image_count = 1433

unfoldable pub heading : Bool → List ℕ
heading kept = 0x53 ∷ 0x47 ∷ 0x43 ∷ 0x4C ∷ 1 ∷ flag_byte kept ∷ 0 ∷ 0 ∷ []

-- the image of registers, a rest and a set
unfoldable pub image_of : Bool → List ℕ → List ℕ → List ℕ → List ℕ
image_of kept registers rest set = heading kept ++ word_bytes registers ++ rest ++ set

-- the parts of an image
unfoldable pub registers_in : List ℕ → List ℕ
registers_in image = words_in (take 216 (drop 8 image))

unfoldable pub rest_in : List ℕ → List ℕ
rest_in image = take rest_count (drop 224 image)

unfoldable pub set_kept : List ℕ → Bool
set_kept image = is_set (get_or image 5 0)

unfoldable pub set_part : List ℕ → List ℕ
set_part image = take set_count (drop 1050 image)

-- mark, version, and the bytes behind
unfoldable pub headed : List ℕ → Bool
headed image =
    eqb (get_or image 0 0) 0x53
    && eqb (get_or image 1 0) 0x47
    && eqb (get_or image 2 0) 0x43
    && eqb (get_or image 3 0) 0x4C
    && eqb (get_or image 4 0) 1
    && leb (get_or image 5 0) 1
    && eqb (get_or image 6 0) 0
    && eqb (get_or image 7 0) 0

-- 'refuses a wrong length, mark, version or an unsound file with 12'
unfoldable pub loads : List ℕ → Bool
loads image = eqb (length image) image_count && headed image && sound_in (registers_in image) (rest_in image)

-- the set of an image: none, all zeros, where it is not kept
unfoldable pub kept_set : Bool → List ℕ → List ℕ
kept_set kept set = cond kept set (replicate set_count 0)

-- what a save answers, and what the buffer has afterwards: 12 of an unsound file, 11 of a buffer without room, else the image in its first bytes
unfoldable pub save_answer : List ℕ → List ℕ → List ℕ → Answer
save_answer registers rest buffer = cond (sound_in registers rest) (cond (ltb (length buffer) image_count) ShortBuffer (Done 0)) NotSound

unfoldable pub saved_in : Bool → List ℕ → List ℕ → List ℕ → List ℕ → List ℕ
saved_in kept registers rest set buffer =
    cond (sound_in registers rest) (cond (ltb (length buffer) image_count) buffer (sets buffer 0 (image_of kept registers rest (kept_set kept set)))) buffer

-- what a load hands back: the image's parts, and the set that was there where none is kept; or 12
unfoldable pub loaded_from : List ℕ → List ℕ → Result Loaded Answer
loaded_from image set =
    cond (loads image)
    (Ok (record { registers = registers_in image; rest = rest_in image; set = cond (set_kept image) (set_part image) set }))
    (Err NotSound)
