-- One access: its answer and its effect, computed from the file by what its place is; the effect applied.
-- Assumes nothing.
use Rattle.std.specs.Prelude.{ℕ, ◌+◌, ◌%◌, Bool, true, false, cond, not, ◌&&◌, eqb, leb, ltb, get_or, Result, Ok, Err}
use Rattle.bits.specs.Store.{bit, store}
use Rattle.file.specs.declared.answer.Answer.{Answer}
use Rattle.file.specs.declared.answer.Answer.TheVariants.{Done, NoRegister, Malformed, ReadOnly, Locked, PaletteDown, NotSound}
use Rattle.file.specs.declared.effect.Effect.{Effect}
use Rattle.file.specs.declared.effect.Effect.TheVariants.{Nothing, Store, Toggle, Move, Step, Paint, Pass}
use Rattle.file.specs.declared.effect.Reach.{Reach}
use Rattle.file.specs.declared.palette.Colour.{Colour}
use Rattle.file.specs.declared.registers.File.{File}
use Rattle.file.specs.Answers.{code_of, value_of, refused}
use Rattle.file.specs.Chips.{pci02, v_port_shown}
use Rattle.file.specs.Effects.{apply, reach_of}
use Rattle.file.specs.File.{register, black, bank_count, crtc_locked}
use Rattle.file.specs.Names.{CR0, CR6, CR7, CR1A, B0, capture_ystart}
use Rattle.file.specs.Palette.{component, addressed, after_write, after_read, stores, mixed, dac_state, marks_from}
use Rattle.file.specs.Registers.{stored_bits}
use Rattle.file.specs.Sound.{sound}
use Rattle.places.specs.declared.place.Place.{Place}
use Rattle.places.specs.Lookup.{place_at}
use Rattle.timing.specs.Timing.{timing_in}
use Rattle.places.specs.Profile.{Reading, gives_held, gives_fixed, gives_device_id, gives_toggle, gives_palette_state, gives_vport_state, gives_dac_state, gives_address, gives_pixel, resets_toggle, gives_line, names_nothing, Writing, stores_to, read_only, sets_address, writes_pixel, stores_nothing, passes_lines, profile}
use Rattle.access.specs.declared.access.Accessed.{Accessed}
use Rattle.access.specs.declared.record.Item.{Item}
use Rattle.access.specs.declared.record.Item.TheVariants.{Whole, Fragment}
use Rattle.access.specs.declared.record.Record.{Record}
use Rattle.access.specs.declared.record.Reply.{Reply}
use Rattle.access.specs.Checks.{carries, checks, first_refusal}

-- the place that a record finds in a file
unfoldable pub place_of : File → Record → Place
place_of f r = place_at f r.kind r.address

-- code 8: 'write to CR0 to CR6 while CR11[7]=1'
unfoldable pub locked_out : File → ℕ → Bool
locked_out f number = crtc_locked f && (leb CR0 number && leb number CR6)

-- 'While CR11[7]=1 a CR7 write stores bit 4 only, the other bits staying, and answers 0.'
unfoldable pub locked_reach : ℕ
locked_reach = 0x10

-- the bits of a register that a write may change; what a register stores goes by the file's chip (02, 6/13)
unfoldable pub reach_in : File → ℕ → ℕ
reach_in f number = cond (crtc_locked f && eqb number CR7) locked_reach (stored_bits f.state.chip number)

-- code 9, 'pixel data access while B0[7]=1'; 02, 7/13: it 'now finds the palette down if B0[7], CR1A[3] or CR1A[2] is 1'
unfoldable pub palette_up : File → Bool
palette_up f = eqb (bit 7 (register f B0)) 0 && eqb (bit 3 (register f CR1A)) 0 && eqb (bit 2 (register f CR1A)) 0

-- 'With B0[3]=1 the entry is number address mod 16 of a bank of 16 cursor and border colours, else one of 256'
unfoldable pub in_bank : File → Bool
in_bank f = eqb (bit 3 (register f B0)) 1

unfoldable pub entry_number : File → ℕ
entry_number f = cond (in_bank f) (f.state.pointer.address % bank_count) f.state.pointer.address

unfoldable pub entry : File → Colour
entry f = cond (in_bank f) (get_or f.bank (entry_number f) black) (get_or f.palette (entry_number f) black)

-- 'A 3C9h read gives the stored component of the next colour.'
unfoldable pub shown_in : File → ℕ
shown_in f = component (entry f) f.state.pointer.next

-- 02, 1/13, 'bit 2 tells whether the last palette access was a read or a write, and bits 1:0 which colour was last accessed': the bits of B0 that read
-- the marks
unfoldable pub shown_state : ℕ
shown_state = 0x07

-- 02, 6/13, of 10Ch, 'bits 11 and 10 read 1' on the 5462: what it reads
unfoldable pub v_port_state : File → ℕ
v_port_state f = store (v_port_shown f.state.chip) (register f capture_ystart) (v_port_shown f.state.chip)

-- 02, 10/13, 'the V total of that moment', and the other numbers that a line is held to: those that timing reads
unfoldable pub v_total : File → ℕ
v_total f = (timing_in f).v_total.0

unfoldable pub v_display : File → ℕ
v_display f = (timing_in f).v_display.0

unfoldable pub v_sync_start : File → ℕ
v_sync_start f = (timing_in f).v_sync_start.0

unfoldable pub v_sync_end : File → ℕ
v_sync_end f = (timing_in f).v_sync_end.0

-- 02, 10/13, 'Both reads show the line reduced by the total'
unfoldable pub line_shown : File → ℕ
line_shown f = f.state.line % v_total f

-- 02, 10/13, 'The line rises modulo the V total of that moment; a line beyond a shortened total is first reduced by it'
unfoldable pub line_after : File → ℕ → ℕ
line_after f lines = (line_shown f + lines) % v_total f

-- 02, 10/13, 'bit 3 while the line is at or past V sync start and before V sync end'
unfoldable pub in_sync : File → Bool
in_sync f = leb (v_sync_start f) (line_shown f) && ltb (line_shown f) (v_sync_end f)

-- 'and bit 0 while it is at or past V display'
unfoldable pub past_display : File → Bool
past_display f = leb (v_display f) (line_shown f)

-- 02, 10/13: what 3?Ah reads, where 01's base 'gives 0'
unfoldable pub display_state : File → ℕ
display_state f = cond (in_sync f) 0x08 0x00 + cond (past_display f) 0x01 0x00

-- what a read answers: 'then 1 or .. 9', or done with what was read
unfoldable pub answer_of_read : File → Reading → Answer
answer_of_read f (gives_held number) = Done (register f number)
answer_of_read f (gives_fixed value) = Done value
answer_of_read f gives_device_id = Done (pci02 f.state.chip)
answer_of_read f gives_toggle = Done (cond f.state.toggle 0x80 0x00)
answer_of_read f gives_palette_state = Done (store shown_state (register f B0) f.state.marks)
answer_of_read f gives_vport_state = Done (v_port_state f)
answer_of_read f gives_dac_state = Done (dac_state f.state.pointer)
answer_of_read f gives_address = Done f.state.pointer.address
answer_of_read f gives_pixel = cond (palette_up f) (Done (shown_in f)) PaletteDown
answer_of_read f resets_toggle = Done (display_state f)
answer_of_read f gives_line = Done (line_shown f)
answer_of_read f names_nothing = NoRegister

-- what a write answers: 'then 1 or 7 or 8 or 9', or done; 02, 10/13: 'Kind 6 replies 0 with value 0'
unfoldable pub write_answer : File → Writing → Answer
write_answer f (stores_to number flips) = cond (locked_out f number) Locked (Done 0)
write_answer f read_only = ReadOnly
write_answer f (sets_address reading) = Done 0
write_answer f writes_pixel = cond (palette_up f) (Done 0) PaletteDown
write_answer f (stores_nothing flips) = NoRegister
write_answer f passes_lines = Done 0

-- what a place answers to a record that brings a value (true) or to a read
unfoldable pub answer_at : Bool → File → Place → Answer
unfolding profile write_answer answer_of_read
answer_at write f place = cond write (write_answer f (profile place).writing) (answer_of_read f (profile place).reading)

-- a 3C9h write: 'at blue it stores held red, held green and this byte'; by 02, 1/13 it becomes the last 3C9h access
unfoldable pub pixel_write : File → ℕ → Effect
pixel_write f byte =
    cond (stores f.state.pointer)
    (Paint (in_bank f) (entry_number f) (after_write f.state.pointer byte) (mixed f.state.pointer byte) (marks_from false f.state.pointer))
    (Step (after_write f.state.pointer byte) (marks_from false f.state.pointer))

-- what a write does, given the bits of each register that it may change; 02, 10/13: and lines that pass
unfoldable pub write_effect : (ℕ → ℕ) → File → Writing → ℕ → Effect
write_effect reach f (stores_to number flips) value = Store flips number (reach number) value
write_effect reach f read_only value = Nothing
write_effect reach f (sets_address reading) value = Move (addressed reading value)
write_effect reach f writes_pixel value = pixel_write f value
write_effect reach f (stores_nothing flips) value = cond flips (Toggle (not f.state.toggle)) Nothing
write_effect reach f passes_lines value = Pass (line_after f value)

-- what a read does: '3?Ah read (.. sets the toggle to index)', and a 3C9h read moves the pointer and becomes the last 3C9h access
-- (02, 1/13); reads that show the line 'store nothing of it' (02, 10/13)
unfoldable pub read_effect : File → Reading → Effect
read_effect f (gives_held number) = Nothing
read_effect f (gives_fixed value) = Nothing
read_effect f gives_device_id = Nothing
read_effect f gives_toggle = Nothing
read_effect f gives_palette_state = Nothing
read_effect f gives_vport_state = Nothing
read_effect f gives_dac_state = Nothing
read_effect f gives_address = Nothing
read_effect f gives_pixel = Step (after_read f.state.pointer) (marks_from true f.state.pointer)
read_effect f resets_toggle = Toggle false
read_effect f gives_line = Nothing
read_effect f names_nothing = Nothing

-- what an access to a place does
unfoldable pub effect_at : Bool → File → Place → ℕ → Effect
unfolding profile write_effect read_effect
effect_at write f place value =
    cond write (write_effect (reach_in f) f (profile place).writing value) (read_effect f (profile place).reading)

-- the answer to a record
unfoldable pub answer : File → Record → Answer
answer f r = first_refusal checks f r (answer_at (carries r) f (place_of f r))

-- 'Codes from 2 up leave the file as given'
unfoldable pub effect : File → Record → Effect
effect f r = cond (refused (answer f r)) Nothing (effect_at (carries r) f (place_of f r) r.value)

-- what a record may change in the file
unfoldable pub reach : File → Record → Reach
reach f r = reach_of (effect f r)

-- 'all other readers of a file answer 12': what a host is told of it
unfoldable pub read_reach : File → Record → Result Reach Answer
read_reach f r = cond (sound f) (Ok (reach f r)) (Err NotSound)

-- the answer beside what was read, or the refusal
unfoldable pub answer_with : {A : Type 0} → Result A Answer → Answer
answer_with (Ok read) = Done 0
answer_with (Err refusal) = refusal

-- 'A reply is 8 bytes: code, kind and address copied, value'
unfoldable pub reply_to : Record → Answer → Reply
reply_to r a = record { code = code_of a; kind = r.kind; address = r.address; value = value_of a }

-- a file handed back with an answer to a record, and the reply to it
unfoldable pub handed : Record → File → Answer → Accessed
handed r f a = record { file = f; answer = a; reply = reply_to r a }

-- one access
unfoldable pub access : File → Record → Accessed
unfolding handed
access f r = handed r (apply (effect f r) f) (answer f r)

-- 'the fragment has code 2'
unfoldable pub access_item : File → Item → Accessed
unfolding handed
access_item f (Whole r) = access f r
access_item f (Fragment r) = handed r f (cond (sound f) Malformed NotSound)

unfoldable pub record_in : Item → Record
record_in (Whole r) = r
record_in (Fragment r) = r
