-- 'Explain': a record, the place that it found and its answer, in words. Names of registers come from the table of registers.
-- Assumes nothing.
use Rattle.std.specs.Prelude.{ℕ, ◌-◌, ◌/◌, Bool, cond, not, ◌&&◌, ◌||◌, List, [], ◌∷◌, Option, None, Some, map, eqb, ltb, get_or}
use Prim.Native.String.{String}
use Rattle.std.proofs.Math.Option.{Option as OptionOf, none, some}
use Rattle.std.specs.Int.Bits.{bit_xor}
use Rattle.bits.specs.Store.{bit}
use Rattle.file.specs.declared.answer.Answer.{Answer}
use Rattle.file.specs.declared.answer.Answer.TheVariants.{Done, NoRegister, Malformed, SpaceOff, NotHeld, OtherHalf, WrongWidth, ReadOnly, Locked, PaletteDown, OutOfRange, ShortBuffer, NotSound, NotBeforeRed, OtherChip, OtherDirection, InsideWider}
use Rattle.file.specs.declared.registers.File.{File}
use Rattle.file.specs.File.{register}
use Rattle.file.specs.Names.{MISC, PCI04, CR0, CR6, CR11, CR1A, B0, capture_ystart}
use Rattle.file.specs.Sound.{sound}
use Rattle.places.specs.declared.place.Place.{Place}
use Rattle.places.specs.declared.place.Place.TheVariants.{Register, Attribute, Fixed, DeviceId, ToggleState, AttributeIndex, PaletteState, VPortState, ReadAddress, WriteAddress, PixelData, ToggleReset, Unnamed, UnnamedAttribute, CurrentLine, Passing}
use Rattle.places.specs.Lookup.{row_at}
use Rattle.places.specs.Places.{Row, pci00}
use Rattle.access.specs.declared.record.Record.{Record}
use Rattle.access.specs.Checks.{is_write, is_passing, is_port, carries}
use Rattle.explaining.specs.declared.token.Token.{Token}
use Rattle.explaining.specs.Lines.{decimal_token, dotted, hex_token, name_token, no_words, nothing, phrase, say, words_token}

-- ---- the record

-- an address, in two hex digits at least
unfoldable pub short : ℕ → Token
short n = hex_token (cond (ltb n 0x100) 2 (cond (ltb n 0x1000) 3 4)) n

-- a record's kind: the space, and the direction
unfoldable pub space_word : ℕ → Token
space_word kind = cond (eqb (kind / 2) 0) (say "config ") (cond (eqb (kind / 2) 1) (say "port ") (say "MMIO "))

-- the value of a write, and that of a read where there is one; it has the width's digits where it fits
abbrev pub has_value : Record → Bool
has_value r = is_write r || not (eqb r.value 0)

abbrev pub value_digits : Record → ℕ
value_digits r = cond (eqb r.width 1 && ltb r.value 0x100) 2 (cond (ltb r.value 0x10000) 4 8)

-- the width, where the value's digits don't tell it: they do where it is 1, or 2 of a write, and the value fits
abbrev pub has_width : Record → Bool
has_width r = not (eqb r.width 1 && ltb r.value 0x100) && not (is_write r && eqb r.width 2 && ltb r.value 0x10000)

-- the parts of 'port write 3D5h = 1Fh'
unfoldable pub way_word : Record → Token
way_word r = cond (is_write r) (say "write ") (say "read ")

unfoldable pub equals_word : Record → Token
equals_word r = cond (has_value r) (say " = ") nothing

unfoldable pub value_token : Record → Token
value_token r = cond (has_value r) (hex_token (value_digits r) r.value) nothing

unfoldable pub comma_word : Record → Token
comma_word r = cond (has_width r) (say ", ") nothing

unfoldable pub width_token : Record → Token
width_token r = cond (has_width r) (decimal_token r.width) nothing

unfoldable pub bytes_word : Record → Token
bytes_word r = cond (has_width r) (cond (eqb r.width 1) (say " byte") (say " bytes")) nothing

-- and all of it
unfoldable pub access_words : Record → List Token
access_words r =
    phrase
    (space_word r.kind ∷ way_word r ∷ short r.address ∷ equals_word r ∷ value_token r ∷ comma_word r ∷ width_token r ∷ bytes_word r ∷ [])

-- lines that pass, with width and address where they aren't 2 and 0
abbrev pub is_odd : Record → Bool
is_odd r = not (eqb r.width 2 && eqb r.address 0)

unfoldable pub passing_words : Record → List Token
passing_words r =
    phrase
    (say "lines pass "
    ∷ decimal_token r.value
    ∷ cond (is_odd r) (say ", width ") nothing
    ∷ cond (is_odd r) (decimal_token r.width) nothing
    ∷ cond (is_odd r) (say " at ") nothing
    ∷ cond (is_odd r) (short r.address) nothing
    ∷ [])

-- an access, lines that pass, or a kind that there is none of
unfoldable pub record_words : Record → List Token
record_words r =
    cond (ltb r.kind 6) (access_words r) (cond (is_passing r) (passing_words r) (phrase (say "kind " ∷ decimal_token r.kind ∷ [])))

-- 01, 'a missing byte counts as zero': what a fragment lacks is not told as if it stood there
unfoldable pub item_words : Bool → Record → List Token
item_words whole r = cond whole (record_words r) (phrase (say "fragment" ∷ []))

-- ---- the place that it found

abbrev pub found_at : OptionOf Row → Option Place
found_at none = None
found_at (some row) = Some row.place

-- 02, 10/13: lines that pass stand in no space
unfoldable pub passing_found : Record → Option Place
passing_found r = cond (is_passing r && eqb r.address 0) (Some Passing) None

-- by its kind and address alone, whatever the answer; an unsound file is not looked into
unfoldable pub found : File → Record → Option Place
found f r =
    cond (sound f)
    (cond (ltb r.kind 6) (found_at (row_at f r.kind r.address)) (passing_found r))
    None

unfoldable pub fixed_words : ℕ → List Token
fixed_words value = phrase (cond (eqb value pci00) (say "PCI00") (say "SR6") ∷ [])

-- 3C7h and 3C8h are written as addresses for reading and for writing; the one reads as the DAC state, the other as the address
unfoldable pub read_address_word : Record → Token
read_address_word r = cond (is_write r) (say "read address") (say "DAC state")

unfoldable pub write_address_word : Record → Token
write_address_word r = cond (is_write r) (say "write address") (say "palette address")

unfoldable pub place_words : Record → Place → List Token
place_words r (Register number) = phrase (name_token number ∷ [])
place_words r (Attribute number) = phrase (name_token number ∷ say " by 3C0h" ∷ [])
place_words r (Fixed value) = fixed_words value
place_words r DeviceId = phrase (say "PCI02" ∷ [])
place_words r ToggleState = phrase (say "CR24" ∷ [])
place_words r AttributeIndex = phrase (say "CR26" ∷ [])
place_words r PaletteState = phrase (name_token B0 ∷ [])
place_words r VPortState = phrase (name_token capture_ystart ∷ [])
place_words r ReadAddress = phrase (read_address_word r ∷ [])
place_words r WriteAddress = phrase (write_address_word r ∷ [])
place_words r PixelData = phrase (say "pixel data" ∷ [])
place_words r ToggleReset = phrase (say "display state" ∷ [])
place_words r Unnamed = phrase (say "no register" ∷ [])
place_words r UnnamedAttribute = phrase (say "no register by 3C0h" ∷ [])
place_words r CurrentLine = phrase (say "line" ∷ [])
place_words r Passing = phrase (say "line" ∷ [])

unfoldable pub found_words : Record → Option Place → List Token
found_words r None = phrase (say "nothing held" ∷ [])
found_words r (Some place) = place_words r place

-- with its code: a fragment and an unsound file are not looked at, and where a code says that the place is held in another way, it is so held
unfoldable pub looked_words : Bool → ℕ → Record → Option Place → List Token
looked_words whole code r found =
    cond (not whole || eqb code 12) (phrase (say "not looked at" ∷ []))
    (cond (eqb code 16 || eqb code 17) (phrase (say "held otherwise" ∷ [])) (found_words r found))

-- ---- the answer

-- code 8
unfoldable pub locked_words : List Token
locked_words = phrase (name_token CR11 ∷ say "[7] locks " ∷ name_token CR0 ∷ say " to " ∷ name_token CR6 ∷ [])

-- 01, the table of codes, and 02, 2/13: what a code means, whatever the record, but for 8; an access has no others than these
unfoldable pub code_names : List String
code_names =
    "done"
    ∷ "index names no register"
    ∷ "malformed"
    ∷ "space off"
    ∷ "nothing there"
    ∷ "other half"
    ∷ "other width"
    ∷ "can only be read"
    ∷ ""
    ∷ "palette down"
    ∷ ""
    ∷ ""
    ∷ "the file is not sound"
    ∷ ""
    ∷ ""
    ∷ ""
    ∷ "other direction"
    ∷ "inside a wider register"
    ∷ []

unfoldable pub code_rows : List (List ℕ)
code_rows = map (λ (name : String). dotted name) code_names

unfoldable pub code_word : ℕ → Token
code_word code = words_token (get_or code_rows code no_words)

unfoldable pub code_words : ℕ → List Token
code_words code = cond (eqb code 8) locked_words (phrase (code_word code ∷ []))

-- a write is done, and so are lines that pass; a read tells what it gave, in its width's digits
unfoldable pub done_words : Record → ℕ → List Token
done_words r value = cond (carries r) (code_words 0) (phrase (say "read " ∷ hex_token (cond (eqb r.width 1) 2 4) value ∷ []))

-- code 2, and which of its reasons: 02, 10/13, of lines that pass; 01 of an access; a fragment's bytes are missing
unfoldable pub passing_why : Record → Token
passing_why r = cond (not (eqb r.width 2)) (say "its width is not 2") (cond (not (eqb r.address 0)) (say "its address is not 0") (say "1 to 65535 lines"))

unfoldable pub access_why : Record → Token
access_why r =
    cond (eqb r.width 1 || eqb r.width 2) (cond (is_write r) (say "value beyond its width") (say "a read has no value"))
    (say "no such width")

unfoldable pub malformed_word : Record → Token
malformed_word r = cond (ltb 6 r.kind) (say "no such kind") (cond (is_passing r) (passing_why r) (access_why r))

unfoldable pub malformed_words : Bool → Record → List Token
malformed_words whole r = phrase (cond whole (malformed_word r) (say "bytes are missing") ∷ [])

-- code 3
unfoldable pub off_words : Record → List Token
off_words r = phrase (name_token PCI04 ∷ cond (is_port r) (say "[0]=0: ports off") (say "[1]=0: MMIO off") ∷ [])

-- code 5, and the port of the other half
unfoldable pub half_words : File → Record → List Token
half_words f r =
    phrase (name_token MISC ∷ cond (eqb (bit 0 (register f MISC)) 1) (say "[0]=1: use ") (say "[0]=0: use ") ∷ short (bit_xor r.address 0x60) ∷ [])

-- code 6
unfoldable pub width_words : Record → List Token
width_words r = phrase (cond (eqb r.width 1) (say "its width is 2") (say "its width is 1") ∷ [])

-- code 9, and the first bit that has the palette down (02, 7/13)
unfoldable pub down_words : File → List Token
down_words f =
    cond (eqb (bit 7 (register f B0)) 1) (phrase (name_token B0 ∷ say "[7]=1: palette down" ∷ []))
    (phrase (name_token CR1A ∷ cond (eqb (bit 3 (register f CR1A)) 1) (say "[3]=1: palette down") (say "[2]=1: palette down") ∷ []))

-- code 16
unfoldable pub direction_words : Record → List Token
direction_words r = phrase (cond (is_write r) (say "held for reads only") (say "held for writes only") ∷ [])

-- code 17, and where the register is
unfoldable pub inside_words : Record → List Token
inside_words r = phrase (say "inside the register at " ∷ short (r.address - 1) ∷ [])

-- what a code means: of a read what it gave, of a refusal the bit that refuses. An access has no other answers
unfoldable pub answer_words : File → Record → Bool → Answer → List Token
answer_words f r whole (Done value) = done_words r value
answer_words f r whole NoRegister = code_words 1
answer_words f r whole Malformed = malformed_words whole r
answer_words f r whole SpaceOff = off_words r
answer_words f r whole NotHeld = code_words 4
answer_words f r whole OtherHalf = half_words f r
answer_words f r whole WrongWidth = width_words r
answer_words f r whole ReadOnly = code_words 7
answer_words f r whole Locked = code_words 8
answer_words f r whole PaletteDown = down_words f
answer_words f r whole OutOfRange = phrase (nothing ∷ [])
answer_words f r whole ShortBuffer = phrase (nothing ∷ [])
answer_words f r whole NotSound = code_words 12
answer_words f r whole NotBeforeRed = phrase (nothing ∷ [])
answer_words f r whole OtherChip = phrase (nothing ∷ [])
answer_words f r whole OtherDirection = direction_words r
answer_words f r whole InsideWider = inside_words r
