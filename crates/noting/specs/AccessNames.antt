-- 02, 11/13, 'stored into (an equal value too) or moved': what an access names, by its place. That it reaches this and nothing else is a law
-- (`access-names`).
-- Assumes nothing.
use Rattle.std.specs.Prelude.{Bool, true, false, cond, List, [], ◌∷◌, map}
use Rattle.file.specs.declared.effect.Reach.{Reach}
use Rattle.file.specs.declared.registers.File.{File}
use Rattle.file.specs.Answers.{refused}
use Rattle.file.specs.Palette.{stores}
use Rattle.places.specs.Profile.{Reading, gives_held, gives_fixed, gives_device_id, gives_toggle, gives_palette_state, gives_vport_state, gives_dac_state, gives_address, gives_pixel, resets_toggle, gives_line, names_nothing, Writing, stores_to, read_only, sets_address, writes_pixel, stores_nothing, passes_lines, profile}
use Rattle.access.specs.declared.record.Record.{Record}
use Rattle.access.specs.Access.{place_of, in_bank as isInBank, entry_number, answer}
use Rattle.access.specs.Checks.{carries}
use Rattle.touched.specs.Noted.{any_reaches}
use Rattle.touched.specs.Things.{Thing, a_register, in_palette, in_bank, the_pointer, the_marks, the_toggle}

-- a reach of one thing alone, and whether a thing is one of some
unfoldable pub alone : Thing → Reach
alone (a_register n) =
    record { register = n; bits = 1; toggle = false; pointer = false; marks = false; line = false; palette = false; bank = false; entry = 0 }
alone (in_palette n) =
    record { register = 0; bits = 0; toggle = false; pointer = false; marks = false; line = false; palette = true; bank = false; entry = n }
alone (in_bank n) =
    record { register = 0; bits = 0; toggle = false; pointer = false; marks = false; line = false; palette = false; bank = true; entry = n }
alone the_pointer =
    record { register = 0; bits = 0; toggle = false; pointer = true; marks = false; line = false; palette = false; bank = false; entry = 0 }
alone the_marks =
    record { register = 0; bits = 0; toggle = false; pointer = false; marks = true; line = false; palette = false; bank = false; entry = 0 }
alone the_toggle =
    record { register = 0; bits = 0; toggle = true; pointer = false; marks = false; line = false; palette = false; bank = false; entry = 0 }

unfoldable pub is_one : List Thing → Thing → Bool
is_one things t = any_reaches (map alone things) t

-- the entry that the pointer names
unfoldable pub entry_named : File → Thing
entry_named f = cond (isInBank f) (in_bank (entry_number f)) (in_palette (entry_number f))

-- a write that is done: its register, whatever the value, and at 3C0h the toggle, also where no register is named; at 3C7h and 3C8h the pointer; at
-- 3C9h pointer and marks, and the entry at blue. Lines that pass (02, 10/13): nothing, 'The line stays outside'
unfoldable pub write_names : File → Writing → List Thing
write_names f (stores_to number flips) = a_register number ∷ cond flips (the_toggle ∷ []) []
write_names f read_only = []
write_names f (sets_address reading) = the_pointer ∷ []
write_names f writes_pixel = the_pointer ∷ the_marks ∷ cond (stores f.state.pointer) (entry_named f ∷ []) []
write_names f (stores_nothing flips) = cond flips (the_toggle ∷ []) []
write_names f passes_lines = []

-- a read: at 3C9h pointer and marks; at 3?Ah the toggle, also where it was at index
unfoldable pub read_names : Reading → List Thing
read_names (gives_held number) = []
read_names (gives_fixed value) = []
read_names gives_device_id = []
read_names gives_toggle = []
read_names gives_palette_state = []
read_names gives_vport_state = []
read_names gives_dac_state = []
read_names gives_address = []
read_names gives_pixel = the_pointer ∷ the_marks ∷ []
read_names resets_toggle = the_toggle ∷ []
read_names gives_line = []
read_names names_nothing = []

-- a refusal names nothing
unfoldable pub access_names : File → Record → List Thing
access_names f r =
    cond (refused (answer f r)) [] (cond (carries r) (write_names f (profile (place_of f r)).writing) (read_names (profile (place_of f r)).reading))
