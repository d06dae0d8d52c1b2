-- The words of the slice, with their places, and what is looked at in a word.
-- Assumes nothing.
use Rattle.std.specs.Prelude.{ℕ, suc, ◌+◌, ◌-◌, Bool, cond, ◌&&◌, List, [], ◌∷◌, ◌++◌, Option, Some, None, eqb, ltb, length, take, drop, get_or}
use Rattle.file.specs.Readers.{ascii, same}
use Rattle.options.specs.declared.types.Span.{Span}

abbrev pub span : ℕ → ℕ → Span
span start end = record { start = start; end = end }

-- the bytes of a span
unfoldable pub part : List ℕ → Span → List ℕ
part words s = take (s.end - s.start) (drop s.start words)

-- those of a word that there may be
unfoldable pub word_at : List ℕ → Option Span → List ℕ
word_at words None = []
word_at words (Some s) = part words s

-- the words of bytes that stand from a place on, the first of which began at a start: each is ended by a zero byte
unfoldable pub words_from : ℕ → ℕ → List ℕ → List Span
words_from start at [] = []
words_from start at (b ∷ bs) = cond (eqb b 0) (span start at ∷ []) [] ++ words_from (cond (eqb b 0) (suc at) start) (suc at) bs

-- a dash, and more than that
unfoldable pub is_option : List ℕ → Bool
is_option word = ltb 1 (length word) && eqb (get_or word 0 0) 0x2D

-- the bytes before the first '='
unfoldable pub name_in : List ℕ → List ℕ
name_in [] = []
name_in (b ∷ bs) = cond (eqb b 0x3D) [] (b ∷ name_in bs)

-- the part of an option's word that is its name
unfoldable pub name_span : List ℕ → Span → Span
name_span words s = span s.start (s.start + length (name_in (part words s)))

-- the last four bytes are .hex
unfoldable pub ends_in_hex : List ℕ → Bool
unfolding ascii
ends_in_hex name = same (drop (length name - 4) name) (ascii ".hex")
