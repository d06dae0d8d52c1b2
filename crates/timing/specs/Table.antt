-- 01, 'Timing': the fifteen numbers as one table of pieces, high bits first.
-- Assumes nothing.
use Rattle.std.specs.Prelude.{ℕ, Bool, cond, ◌||◌, List, [], ◌∷◌, ◌++◌, eqb}
use Rattle.bits.specs.Numbers.{Meaning, plus, end_of_last, Number}
use Rattle.bits.specs.Pieces.{Piece, piece}
use Rattle.bits.specs.Store.{bit}
use Rattle.file.specs.declared.registers.File.{File}
use Rattle.file.specs.File.{register}
use Rattle.file.specs.Names.{CR0, CR1, CR2, CR3, CR4, CR5, CR6, CR7, CR9, CRC, CRD, CR10, CR11, CR12, CR13, CR15, CR16, CR18, CR1A, CR1B, CR1D, CR1E}

abbrev pub whole : ℕ → Piece
whole register = piece register 7 0

abbrev pub one : ℕ → ℕ → Piece
one register place = piece register place place

abbrev pub number : Meaning → List Piece → Number
number meaning pieces = record { pieces = pieces; meaning = meaning }

-- 'CR1A's blank pieces count only if CR1B[5] or CR1B[7] is 1; otherwise the ends have 6 and 8 bits and CR1A[7:4] isn't touched.'
unfoldable pub wide : File → Bool
wide f = eqb (bit 5 (register f CR1B)) 1 || eqb (bit 7 (register f CR1B)) 1

abbrev if_wide : Bool → Piece → List Piece
if_wide w p = cond w (p ∷ []) []

abbrev pub h_blank_end : Bool → List Piece
h_blank_end w = if_wide w (piece CR1A 5 4) ++ one CR5 7 ∷ piece CR3 4 0 ∷ []

abbrev pub v_blank_end : Bool → List Piece
v_blank_end w = if_wide w (piece CR1A 7 6) ++ whole CR16 ∷ []

-- H total, H display, H blank start, H blank end, H sync start, H sync end; V likewise; line compare, offset, screen start
unfoldable pub table : Bool → List Number
table w =
    number (plus 5) (one CR1E 7 ∷ whole CR0 ∷ [])
    ∷ number (plus 1) (one CR1E 6 ∷ whole CR1 ∷ [])
    ∷ number (plus 0) (one CR1E 5 ∷ whole CR2 ∷ [])
    ∷ number end_of_last (h_blank_end w)
    ∷ number (plus 0) (one CR1E 4 ∷ whole CR4 ∷ [])
    ∷ number end_of_last (piece CR5 4 0 ∷ [])
    ∷ number (plus 2) (one CR1E 3 ∷ one CR7 5 ∷ one CR7 0 ∷ whole CR6 ∷ [])
    ∷ number (plus 1) (one CR1E 2 ∷ one CR7 6 ∷ one CR7 1 ∷ whole CR12 ∷ [])
    ∷ number (plus 0) (one CR1E 1 ∷ one CR9 5 ∷ one CR7 3 ∷ whole CR15 ∷ [])
    ∷ number end_of_last (v_blank_end w)
    ∷ number (plus 0) (one CR1E 0 ∷ one CR7 7 ∷ one CR7 2 ∷ whole CR10 ∷ [])
    ∷ number end_of_last (piece CR11 3 0 ∷ [])
    ∷ number (plus 0) (one CR9 6 ∷ one CR7 4 ∷ whole CR18 ∷ [])
    ∷ number (plus 0) (one CR1B 4 ∷ whole CR13 ∷ [])
    ∷ number (plus 0) (piece CR1D 4 3 ∷ piece CR1B 3 2 ∷ one CR1B 0 ∷ whole CRC ∷ whole CRD ∷ [])
    ∷ []
