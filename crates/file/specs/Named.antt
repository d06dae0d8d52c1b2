-- The names that the rules use, beside the table of registers (01, 'Stored bits'; 02, 6/13): each stands there at the number that it has (the law `named`).
-- Assumes nothing.
use Rattle.std.specs.Prelude.{ℕ, Bool, true, ◌&&◌, List, [], ◌∷◌, map, get_or}
use Prim.Native.String.{String}
use lib.Text.{eqt}
use Rattle.file.specs.Names.{MISC, SRX, CRX, GRX, ARX, pixel_mask, PCI04, SR0, SR0E, SR1E, CR0, CR1, CR2, CR3, CR4, CR5, CR6, CR7, CR9, CRC, CRD, CR10, CR11, CR12, CR13, CR15, CR16, CR18, CR1A, CR1B, CR1D, CR1E, GR0, AR0, B0, CC, CE, D0, D2, D4, D5, E0, E2, E4, E6, E8, buffer_0_x, capture_xstart, capture_xstop, capture_ystart, capture_ystop}
use Rattle.file.specs.Readers.{ascii, number_of}
use Rattle.file.specs.Registers.{Register, registers}

-- the table's name of a number
unfoldable pub name_of : ℕ → String
name_of number = get_or (map (λ (r : Register). r.name) registers) number ""

-- a name, and the number that the rules have for it
pub record Named : Type 0 where
  pub name : String
  pub number : ℕ

infix 70 ◌is◌
abbrev ◌is◌ : String → ℕ → Named
name is number = record { name = name; number = number }

-- every name of `Names`
unfoldable pub names : List Named
names =
    "MISC" is MISC ∷ "SRX" is SRX ∷ "CRX" is CRX ∷ "GRX" is GRX ∷ "ARX" is ARX
    ∷ "pixel mask" is pixel_mask ∷ "PCI04" is PCI04 ∷ "SR0" is SR0 ∷ "SR0E" is SR0E ∷ "SR1E" is SR1E
    ∷ "CR0" is CR0 ∷ "CR1" is CR1 ∷ "CR2" is CR2 ∷ "CR3" is CR3 ∷ "CR4" is CR4 ∷ "CR5" is CR5 ∷ "CR6" is CR6 ∷ "CR7" is CR7
    ∷ "CR9" is CR9 ∷ "CRC" is CRC ∷ "CRD" is CRD ∷ "CR10" is CR10 ∷ "CR11" is CR11 ∷ "CR12" is CR12 ∷ "CR13" is CR13 ∷ "CR15" is CR15 ∷ "CR16" is CR16 ∷ "CR18" is CR18
    ∷ "CR1A" is CR1A ∷ "CR1B" is CR1B ∷ "CR1D" is CR1D ∷ "CR1E" is CR1E
    ∷ "GR0" is GR0 ∷ "AR0" is AR0
    ∷ "B0" is B0 ∷ "CC" is CC ∷ "CE" is CE ∷ "D0" is D0 ∷ "D2" is D2 ∷ "D4" is D4 ∷ "D5" is D5
    ∷ "E0" is E0 ∷ "E2" is E2 ∷ "E4" is E4 ∷ "E6" is E6 ∷ "E8" is E8
    ∷ "100" is buffer_0_x ∷ "108" is capture_xstart ∷ "10A" is capture_xstop ∷ "10C" is capture_ystart ∷ "10E" is capture_ystop
    ∷ []

-- each is the table's at its number
unfoldable pub all_named : List Named → Bool
all_named [] = true
all_named (n ∷ ns) = eqt (name_of n.number) n.name && all_named ns

-- the names that code has a constant for, and the numbers that they have in the table
unfoldable pub in_code : List String
in_code = "MISC" ∷ "SRX" ∷ "CRX" ∷ "GRX" ∷ "ARX" ∷ "PCI04" ∷ "CR0" ∷ "CR6" ∷ "CR7" ∷ "CR10" ∷ "CR11" ∷ "CR12" ∷ "CR1A" ∷ "CR1B" ∷ "CR1E" ∷ "B0" ∷ "CC" ∷ "CE" ∷ "D0" ∷ "D2" ∷ "D4" ∷ "D5" ∷ "E0" ∷ "E2" ∷ "E4" ∷ "E6" ∷ "E8" ∷ "108" ∷ "10A" ∷ "10C" ∷ "10E" ∷ []

unfoldable pub numbers_in_code : List ℕ
numbers_in_code = map (λ (name : String). number_of (ascii name)) in_code
