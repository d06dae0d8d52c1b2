-- 01, 'The palette pointer', and 02, 1/13: the marks of the last access.
-- Assumes nothing.
use Rattle.std.specs.Prelude.{ℕ, zero, suc, ◌+◌, ◌/◌, ◌%◌, Bool, cond, ◌&&◌, ◌||◌, leb, eqb}
use Rattle.file.specs.declared.palette.Colour.{Colour}
use Rattle.file.specs.declared.palette.Pointer.{Pointer}

-- 'a next colour (0 red, 1 green, 2 blue)': what belongs to it
abbrev pub by_colour : {A : Type 0} → ℕ → A → A → A → A
by_colour zero red green blue = red
by_colour (suc zero) red green blue = green
by_colour (suc (suc n)) red green blue = blue

-- an entry's component
unfoldable pub component : Colour → ℕ → ℕ
component c n = by_colour n c.red c.green c.blue

-- 'Writing 3C7h or 3C8h sets the address and the mode (read or write), the next colour to red and both held bytes to 0.'
unfoldable pub addressed : Bool → ℕ → Pointer
addressed reading address = record { address = address; reading = reading; next = 0; red = 0; green = 0 }

-- 'Either moves to the next colour; after blue the held bytes are 0 and the address rises by one, modulo 256.' What is held until then is given.
unfoldable pub moved : Pointer → ℕ → ℕ → Pointer
moved p red green =
    by_colour p.next
    (record { address = p.address; reading = p.reading; next = 1; red = red; green = green })
    (record { address = p.address; reading = p.reading; next = 2; red = red; green = green })
    (record { address = (p.address + 1) % 256; reading = p.reading; next = 0; red = 0; green = 0 })

-- 'A 3C9h write at red or green holds the byte'
unfoldable pub after_write : Pointer → ℕ → Pointer
after_write p byte =
    moved p (by_colour p.next byte p.red p.red) (by_colour p.next p.green byte p.green)

-- 'A 3C9h read' moves the pointer and holds nothing new
unfoldable pub after_read : Pointer → Pointer
after_read p = moved p p.red p.green

-- 'at blue it stores held red, held green and this byte'
unfoldable pub stores : Pointer → Bool
stores p = leb 2 p.next

unfoldable pub mixed : Pointer → ℕ → Colour
mixed p byte = record { red = p.red; green = p.green; blue = byte }

-- 'DAC state reads 3 in read mode, 0 in write mode.'
unfoldable pub dac_state : Pointer → ℕ
dac_state p = cond p.reading 3 0

-- 02, 1/13, 'bit 2 tells whether the last palette access was a read or a write, and bits 1:0 which colour was last accessed'; 003, 5.1: bit 2 is 1 for a
-- read, bits 1:0 are 0 red, 1 green, 2 blue. The marks are the number that B0[2:0] reads
abbrev pub marks_of : Bool → ℕ → ℕ
marks_of reading colour = cond reading 4 0 + colour

-- 02, 1/13, 'direction and colour', taken from the marks; direction 1 is a read
abbrev pub marked_direction : ℕ → ℕ
marked_direction m = m / 4

abbrev pub marked_read : ℕ → Bool
marked_read m = eqb (marked_direction m) 1

abbrev pub marked_colour : ℕ → ℕ
marked_colour m = m % 4

-- 02, 1/13, 'keep the last 3C9h access, direction and colour': of an access (true: a read) with the pointer here; as settled, the colour
-- before the step
unfoldable pub marks_from : Bool → Pointer → ℕ
marks_from reading p = marks_of reading (by_colour p.next 0 1 2)

-- 02, 1/13, 'The marks are sound for direction 0 or 1 and colour 0 to 2'
unfoldable pub marks_sound : ℕ → Bool
marks_sound m = leb (marked_direction m) 1 && leb (marked_colour m) 2

-- 'the next colour is 0 to 2, held green is 0 before blue is due, and held red is 0 at red'
unfoldable pub pointer_sound : Pointer → Bool
pointer_sound p = leb p.next 2 && (leb 2 p.next || eqb p.green 0) && (leb 1 p.next || eqb p.red 0)
