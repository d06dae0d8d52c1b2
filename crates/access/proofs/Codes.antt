-- An access answers a code of the fixed list; where no check refuses, the place answers. Assumes nothing.
use mathlib.Core.Path.{◌≡◌, refl, sym, ◌∙◌}
use mathlib.Core.Bool.{Bool, true, false, true≢false, ◌&&◌}
use mathlib.Core.List.{List, [], ◌∷◌}
use lib.Dec.{T}
use Rattle.bits.proofs.Test.{left, right, chosen, is_true, by-test}
use Rattle.file.specs.declared.answer.Answer.{Answer}
use Rattle.file.specs.declared.answer.Answer.TheVariants.{Done, Locked, PaletteDown}
use Rattle.file.specs.declared.registers.File.{File}
use Rattle.file.specs.Answers.{refused}
use Rattle.places.specs.declared.place.Place.{Place}
use Rattle.places.specs.Profile.{Reading, gives_held, gives_fixed, gives_device_id, gives_toggle, gives_palette_state, gives_vport_state, gives_dac_state, gives_address, gives_pixel, resets_toggle, gives_line, names_nothing, Writing, stores_to, read_only, sets_address, writes_pixel, stores_nothing, passes_lines, profile}
use Rattle.access.specs.declared.record.Record.{Record}
use Rattle.access.specs.Access.{place_of, locked_out, palette_up, shown_in, answer_of_read, write_answer, answer_at, answer}
use Rattle.access.specs.Checks.{Check, carries, checks, first_refusal}
use Rattle.access.specs.Promises.{access_code}
use Rattle.access.proofs.SeenDecisions.{all_refuse, checks-refuse}

-- a test of answers that every check of a list passes
passed_on : (Answer → Bool) → List Check → Bool
passed_on P [] = true
passed_on P (c ∷ cs) = P c.answer && passed_on P cs

first_passes : (P : Answer → Bool) (cs : List Check) (f : File) (r : Record) (otherwise : Answer)
    → T (passed_on P cs) → T (P otherwise) → T (P (first_refusal cs f r otherwise))
unfolding passed_on first_refusal
first_passes P [] f r otherwise t p = p
first_passes P (c ∷ cs) f r otherwise t p =
    chosen P (c.refuses f r) c.answer (first_refusal cs f r otherwise)
    (left (P c.answer) (passed_on P cs) t) (first_passes P cs f r otherwise (right (P c.answer) (passed_on P cs) t) p)

read-code : (f : File) (reading : Reading) → T (access_code (answer_of_read f reading))
unfolding access_code answer_of_read
read-code f (gives_held number) = tt
read-code f (gives_fixed value) = tt
read-code f gives_device_id = tt
read-code f gives_toggle = tt
read-code f gives_palette_state = tt
read-code f gives_vport_state = tt
read-code f gives_dac_state = tt
read-code f gives_address = tt
read-code f gives_pixel = chosen access_code (palette_up f) (Done (shown_in f)) PaletteDown tt tt
read-code f resets_toggle = tt
read-code f gives_line = tt
read-code f names_nothing = tt

write-code : (f : File) (writing : Writing) → T (access_code (write_answer f writing))
unfolding access_code write_answer
write-code f (stores_to number flips) = chosen access_code (locked_out f number) Locked (Done 0) tt tt
write-code f read_only = tt
write-code f (sets_address reading) = tt
write-code f writes_pixel = chosen access_code (palette_up f) (Done 0) PaletteDown tt tt
write-code f (stores_nothing flips) = tt
write-code f passes_lines = tt

place-code : (write : Bool) (f : File) (place : Place) → T (access_code (answer_at write f place))
unfolding answer_at
place-code write f place =
    chosen access_code write (write_answer f (profile place).writing) (answer_of_read f (profile place).reading)
    (write-code f (profile place).writing) (read-code f (profile place).reading)

pub access-code : (f : File) (r : Record) → T (access_code (answer f r))
unfolding answer checks access_code passed_on
access-code f r =
    first_passes access_code checks f r (answer_at (carries r) f (place_of f r)) tt (place-code (carries r) f (place_of f r))

-- where no check refuses, the answer is what stands behind them
first-refused : (cs : List Check) (f : File) (r : Record) (otherwise : Answer)
    → T (all_refuse cs) → refused (first_refusal cs f r otherwise) ≡ false → first_refusal cs f r otherwise ≡ otherwise
unfolding all_refuse first_refusal
first-refused [] f r otherwise t n = refl
first-refused (c ∷ cs) f r otherwise t n =
    by-test (c.refuses f r)
    (λ e. absurd (true≢false (sym (is_true (refused c.answer) (left (refused c.answer) (all_refuse cs) t)) ∙ (rw e at n))))
    (λ e. rw e (first-refused cs f r otherwise (right (refused c.answer) (all_refuse cs) t) (rw e at n)))

pub place-answers : (f : File) (r : Record) → refused (answer f r) ≡ false → answer f r ≡ answer_at (carries r) f (place_of f r)
unfolding answer
place-answers f r n = first-refused checks f r (answer_at (carries r) f (place_of f r)) checks-refuse n
