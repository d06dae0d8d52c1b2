-- An access reaches what its place says and nothing else; a refusal nothing. Assumes nothing.
use Prim.Native.Nat.{ℕ, ◌<◌}
use mathlib.Core.Path.{◌≡◌, refl, sym, ap, ◌∙◌}
use mathlib.Core.Bool.{Bool, true, false, cond, not, ◌&&◌, ◌||◌}
use mathlib.Core.List.{[], ◌∷◌}
use lib.Dec.{T, eqb, ltb→lt}
use Rattle.bits.proofs.Test.{right, by-test, or-false}
use Rattle.file.specs.declared.effect.Effect.{Effect}
use Rattle.file.specs.declared.effect.Effect.TheVariants.{Nothing, Store, Toggle, Move, Step, Paint, Pass}
use Rattle.file.specs.declared.palette.Colour.{Colour}
use Rattle.file.specs.declared.palette.Pointer.{Pointer}
use Rattle.file.specs.declared.registers.File.{File}
use Rattle.file.specs.Answers.{refused}
use Rattle.file.specs.Effects.{reach_of}
use Rattle.file.specs.File.{crtc_locked}
use Rattle.file.specs.Names.{CR7}
use Rattle.file.specs.Palette.{stores}
use Rattle.file.specs.Registers.{register_count, stored_bits}
use Rattle.places.specs.EngineCells.{reads_file, writes_file, in_file}
use Rattle.places.specs.Profile.{Reading, gives_held, gives_fixed, gives_device_id, gives_toggle, gives_palette_state, gives_vport_state, gives_dac_state, gives_address, gives_pixel, resets_toggle, gives_line, names_nothing, Writing, stores_to, read_only, sets_address, writes_pixel, stores_nothing, passes_lines, profile}
use Rattle.places.proofs.RulesOfPlaces.{place-in-file}
use Rattle.access.specs.declared.record.Record.{Record}
use Rattle.access.specs.Access.{place_of, locked_reach, reach_in, in_bank as isInBank, entry_number, pixel_write, write_effect, read_effect, effect_at, answer, effect, reach}
use Rattle.access.specs.Checks.{carries}
use Rattle.access.proofs.Refusals.{refusal-does-nothing}
use Rattle.touched.specs.declared.set.Touched.{Touched}
use Rattle.touched.specs.Noted.{reaches, noted, any_reaches}
use Rattle.touched.specs.Things.{Thing, a_register, in_palette, in_bank, the_pointer, the_marks, the_toggle, there, names, IsSet}
use Rattle.touched.proofs.AllStore.{all-store}
use Rattle.touched.proofs.NotedNames.{noted-names, nothing-noted}
use Rattle.noting.specs.AccessNames.{alone, is_one, entry_named, write_names, read_names, access_names}
use Rattle.noting.specs.Noting.{access_noting}

-- ---- by what an access does

nothing-named : (t : Thing) → reaches (reach_of Nothing) t ≡ is_one [] t
unfolding reaches reach_of is_one any_reaches
nothing-named (a_register n) = refl
nothing-named (in_palette n) = refl
nothing-named (in_bank n) = refl
nothing-named the_pointer = refl
nothing-named the_marks = refl
nothing-named the_toggle = refl

store-named : (flips : Bool) (number bits value : ℕ) → eqb bits 0 ≡ false → (t : Thing)
    → reaches (reach_of (Store flips number bits value)) t ≡ is_one (a_register number ∷ cond flips (the_toggle ∷ []) []) t
unfolding reaches reach_of is_one any_reaches alone
store-named true number bits value some (a_register n) = rw some (sym (or-false (eqb n number)))
store-named false number bits value some (a_register n) = rw some (sym (or-false (eqb n number)))
store-named true number bits value some (in_palette n) = refl
store-named false number bits value some (in_palette n) = refl
store-named true number bits value some (in_bank n) = refl
store-named false number bits value some (in_bank n) = refl
store-named true number bits value some the_pointer = refl
store-named false number bits value some the_pointer = refl
store-named true number bits value some the_marks = refl
store-named false number bits value some the_marks = refl
store-named true number bits value some the_toggle = refl
store-named false number bits value some the_toggle = refl

toggle-named : (toggle : Bool) (t : Thing) → reaches (reach_of (Toggle toggle)) t ≡ is_one (the_toggle ∷ []) t
unfolding reaches reach_of is_one any_reaches alone
toggle-named toggle (a_register n) = refl
toggle-named toggle (in_palette n) = refl
toggle-named toggle (in_bank n) = refl
toggle-named toggle the_pointer = refl
toggle-named toggle the_marks = refl
toggle-named toggle the_toggle = refl

move-named : (pointer : Pointer) (t : Thing) → reaches (reach_of (Move pointer)) t ≡ is_one (the_pointer ∷ []) t
unfolding reaches reach_of is_one any_reaches alone
move-named pointer (a_register n) = refl
move-named pointer (in_palette n) = refl
move-named pointer (in_bank n) = refl
move-named pointer the_pointer = refl
move-named pointer the_marks = refl
move-named pointer the_toggle = refl

step-named : (pointer : Pointer) (marks : ℕ) (t : Thing) → reaches (reach_of (Step pointer marks)) t ≡ is_one (the_pointer ∷ the_marks ∷ []) t
unfolding reaches reach_of is_one any_reaches alone
step-named pointer marks (a_register n) = refl
step-named pointer marks (in_palette n) = refl
step-named pointer marks (in_bank n) = refl
step-named pointer marks the_pointer = refl
step-named pointer marks the_marks = refl
step-named pointer marks the_toggle = refl

paint-named : (bank : Bool) (entry : ℕ) (pointer : Pointer) (colour : Colour) (marks : ℕ) (t : Thing)
    → reaches (reach_of (Paint bank entry pointer colour marks)) t ≡ is_one (the_pointer ∷ the_marks ∷ cond bank (in_bank entry) (in_palette entry) ∷ []) t
unfolding reaches reach_of is_one any_reaches alone
paint-named true entry pointer colour marks (a_register n) = refl
paint-named false entry pointer colour marks (a_register n) = refl
paint-named true entry pointer colour marks (in_palette n) = refl
paint-named false entry pointer colour marks (in_palette n) = sym (or-false (eqb n entry))
paint-named true entry pointer colour marks (in_bank n) = sym (or-false (eqb n entry))
paint-named false entry pointer colour marks (in_bank n) = refl
paint-named true entry pointer colour marks the_pointer = refl
paint-named false entry pointer colour marks the_pointer = refl
paint-named true entry pointer colour marks the_marks = refl
paint-named false entry pointer colour marks the_marks = refl
paint-named true entry pointer colour marks the_toggle = refl
paint-named false entry pointer colour marks the_toggle = refl

-- the line is outside the set
pass-named : (line : ℕ) (t : Thing) → reaches (reach_of (Pass line)) t ≡ is_one [] t
unfolding reaches reach_of is_one any_reaches
pass-named line (a_register n) = refl
pass-named line (in_palette n) = refl
pass-named line (in_bank n) = refl
pass-named line the_pointer = refl
pass-named line the_marks = refl
pass-named line the_toggle = refl

-- ---- by its place

fails : (b : Bool) → T (not b) → b ≡ false
fails true t = absurd t
fails false t = refl

-- a write reaches some bit of its register, CR7 under the lock too
pub reach-some : (f : File) (number : ℕ) → number < register_count → eqb (reach_in f number) 0 ≡ false
unfolding reach_in locked_reach
reach-some f number h =
    by-test (crtc_locked f && eqb number CR7) (λ e. rw e refl)
    (λ e. rw e (fails (eqb (stored_bits f.state.chip number) 0) (all-store f.state.chip number h)))

write-named : (f : File) (writing : Writing) (value : ℕ) → T (writes_file writing) → (t : Thing)
    → reaches (reach_of (write_effect (reach_in f) f writing value)) t ≡ is_one (write_names f writing) t
unfolding write_effect write_names writes_file pixel_write entry_named
write-named f (stores_to number flips) value h t =
    store-named flips number (reach_in f number) value (reach-some f number (ltb→lt number register_count h)) t
write-named f read_only value h t = nothing-named t
write-named f (sets_address reading) value h t = move-named _ t
write-named f writes_pixel value h t =
    by-test (stores f.state.pointer) (λ e. rw e (paint-named (isInBank f) (entry_number f) _ _ _ t)) (λ e. rw e (step-named _ _ t))
write-named f (stores_nothing true) value h t = toggle-named _ t
write-named f (stores_nothing false) value h t = nothing-named t
write-named f passes_lines value h t = pass-named _ t

read_named : (f : File) (reading : Reading) (t : Thing) → reaches (reach_of (read_effect f reading)) t ≡ is_one (read_names reading) t
unfolding read_effect read_names
read_named f (gives_held number) t = nothing-named t
read_named f (gives_fixed value) t = nothing-named t
read_named f gives_device_id t = nothing-named t
read_named f gives_toggle t = nothing-named t
read_named f gives_palette_state t = nothing-named t
read_named f gives_vport_state t = nothing-named t
read_named f gives_dac_state t = nothing-named t
read_named f gives_address t = nothing-named t
read_named f gives_pixel t = step-named _ _ t
read_named f resets_toggle t = toggle-named false t
read_named f gives_line t = nothing-named t
read_named f names_nothing t = nothing-named t

-- ---- an access

pub access-names : (f : File) (r : Record) (t : Thing) → reaches (reach f r) t ≡ is_one (access_names f r) t
unfolding access_names reach effect effect_at in_file place_of
access-names f r t =
    by-test (refused (answer f r)) (λ e. rw e (nothing-named t))
    (λ e. rw e
    (by-test (carries r)
    (λ w. rw w (write-named f (profile (place_of f r)).writing r.value
    (right (reads_file (profile (place_of f r)).reading) (writes_file (profile (place_of f r)).writing) (place-in-file f r.kind r.address)) t))
    (λ w. rw w (read_named f (profile (place_of f r)).reading t))))

-- the set after it names that, and what it named
pub access-noted : (s : Touched) (f : File) (r : Record) (t : Thing) → IsSet s → T (there t)
    → names (access_noting s f r).touched t ≡ (names s t || is_one (access_names f r) t)
unfolding access_noting
access-noted s f r t is h = noted-names (reach f r) s t is h ∙ ap (λ (b : Bool). names s t || b) (access-names f r t)

-- a refusal leaves the set
pub refusal-keeps : (s : Touched) (f : File) (r : Record) → refused (answer f r) ≡ true → (access_noting s f r).touched ≡ s
unfolding access_noting reach
refusal-keeps s f r e = ap (λ (x : Effect). noted (reach_of x) s) (refusal-does-nothing f r e) ∙ nothing-noted s
