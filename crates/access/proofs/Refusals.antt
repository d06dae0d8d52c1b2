-- A refused access leaves the file; an unsound file refuses every access. What an access does, by cases. Assumes nothing.
use Prim.Native.Nat.{ℕ}
use mathlib.Core.Path.{◌≡◌, refl, ap}
use mathlib.Core.Bool.{Bool, true, false, not}
use lib.Dec.{T}
use Rattle.bits.proofs.Test.{by-test, is_true}
use Rattle.file.specs.declared.answer.Answer.TheVariants.{NotSound}
use Rattle.file.specs.declared.effect.Effect.{Effect}
use Rattle.file.specs.declared.effect.Effect.TheVariants.{Nothing, Store, Toggle, Move, Step, Paint, Pass}
use Rattle.file.specs.declared.registers.File.{File}
use Rattle.file.specs.Answers.{code_of, refused}
use Rattle.file.specs.Effects.{apply}
use Rattle.file.specs.Palette.{addressed, after_write, after_read, stores, mixed, marks_from}
use Rattle.file.specs.Sound.{sound}
use Rattle.places.specs.Profile.{Reading, gives_held, gives_fixed, gives_device_id, gives_toggle, gives_palette_state, gives_vport_state, gives_dac_state, gives_address, gives_pixel, resets_toggle, gives_line, names_nothing, Writing, stores_to, read_only, sets_address, writes_pixel, stores_nothing, passes_lines, profile}
use Rattle.access.specs.declared.record.Record.{Record}
use Rattle.access.specs.Access.{place_of, reach_in, line_after, in_bank, entry_number, pixel_write, write_effect, read_effect, effect_at, answer, effect, access}
use Rattle.access.specs.Checks.{carries, checks, first_refusal, not_sound}

pub refusal-does-nothing : (f : File) (r : Record) → refused (answer f r) ≡ true → effect f r ≡ Nothing
unfolding effect
refusal-does-nothing f r e = rw e

-- 'Codes from 2 up leave the file as given'
pub refusal-leaves : (f : File) (r : Record) → T (refused (answer f r)) → (access f r).file ≡ f
unfolding access apply
refusal-leaves f r t = ap (λ (e : Effect). apply e f) (refusal-does-nothing f r (is_true (refused (answer f r)) t))

-- 'A single access to an unsound file replies 12.'
pub unsound-answer : (f : File) (r : Record) → sound f ≡ false → answer f r ≡ NotSound
unfolding answer checks first_refusal not_sound
unsound-answer f r e = rw e

pub unsound-effect : (f : File) (r : Record) → sound f ≡ false → effect f r ≡ Nothing
unfolding refused code_of
unsound-effect f r e = refusal-does-nothing f r (ap refused (unsound-answer f r e))

-- ---- what an access does, by cases

-- what a read does is nothing, the pointer's step or, at 3?Ah alone, the toggle set to index
pub by_read : (P : Effect → Type 0) (f : File) (reading : Reading)
    → P Nothing → P (Step (after_read f.state.pointer) (marks_from true f.state.pointer)) → (reading ≡ resets_toggle → P (Toggle false)) → P (read_effect f reading)
unfolding read_effect
by_read P f (gives_held number) none move toggle = none
by_read P f (gives_fixed value) none move toggle = none
by_read P f gives_device_id none move toggle = none
by_read P f gives_toggle none move toggle = none
by_read P f gives_palette_state none move toggle = none
by_read P f gives_vport_state none move toggle = none
by_read P f gives_dac_state none move toggle = none
by_read P f gives_address none move toggle = none
by_read P f gives_pixel none move toggle = move
by_read P f resets_toggle none move toggle = toggle refl
by_read P f gives_line none move toggle = none
by_read P f names_nothing none move toggle = none

-- what a write does is nothing, a store, an address, a pixel's byte held or stored, the toggle flipped, or lines that pass
pub by-write : (P : Effect → Type 0) (reach : ℕ → ℕ) (f : File) (writing : Writing) (value : ℕ)
    → P Nothing → ((number : ℕ) (flips : Bool) → writing ≡ stores_to number flips → P (Store flips number (reach number) value))
    → ((reading : Bool) → P (Move (addressed reading value))) → P (Step (after_write f.state.pointer value) (marks_from false f.state.pointer))
    → P (Paint (in_bank f) (entry_number f) (after_write f.state.pointer value) (mixed f.state.pointer value) (marks_from false f.state.pointer))
    → (writing ≡ stores_nothing true → P (Toggle (not f.state.toggle))) → (writing ≡ passes_lines → P (Pass (line_after f value)))
    → P (write_effect reach f writing value)
unfolding write_effect pixel_write
by-write P reach f (stores_to number flips) value none store addresses held paint toggle pass = store number flips refl
by-write P reach f read_only value none store addresses held paint toggle pass = none
by-write P reach f (sets_address reading) value none store addresses held paint toggle pass = addresses reading
by-write P reach f writes_pixel value none store addresses held paint toggle pass =
    by-test (stores f.state.pointer) (λ e. rw e paint) (λ e. rw e held)
by-write P reach f (stores_nothing true) value none store addresses held paint toggle pass = toggle refl
by-write P reach f (stores_nothing false) value none store addresses held paint toggle pass = none
by-write P reach f passes_lines value none store addresses held paint toggle pass = pass refl

-- what an access does, by whether it is refused, brings a value or reads
pub by-effect : (P : Effect → Type 0) (f : File) (r : Record) → P Nothing
    → (refused (answer f r) ≡ false → carries r ≡ true → P (write_effect (reach_in f) f (profile (place_of f r)).writing r.value))
    → P (read_effect f (profile (place_of f r)).reading) → P (effect f r)
unfolding effect effect_at
by-effect P f r nothing write read =
    by-test (refused (answer f r)) (λ e. rw e nothing)
    (λ e. rw e (by-test (carries r) (λ w. rw w (write e w)) (λ w. rw w read)))
