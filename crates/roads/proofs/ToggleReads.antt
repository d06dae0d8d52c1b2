-- The records that a plan reads: 3?Ah sets the toggle to index, 3C0h moves nothing.
-- Assumes nothing.
use Prim.Native.Nat.{ℕ, ◌<◌}
use mathlib.Core.Path.{◌≡◌, refl, ap, ◌∙◌, subst}
use mathlib.Core.Bool.{Bool, true, false, cond}
use mathlib.Core.List.{List, [], ◌∷◌}
use mathlib.Core.Option.{some}
use lib.Dec.{T, eqb}
use lib.ListN.{get_or}
use Rattle.bits.specs.Store.{bit}
use Rattle.bits.proofs.Bit.{by_bit, bit-lt}
use Rattle.file.specs.declared.answer.Answer.TheVariants.{Done}
use Rattle.file.specs.declared.registers.File.{File}
use Rattle.file.specs.Answers.{code_of}
use Rattle.file.specs.Effects.{apply}
use Rattle.file.specs.File.{register, with_toggle}
use Rattle.file.specs.Names.{MISC, ARX}
use Rattle.file.specs.Sound.{sound}
use Rattle.places.specs.declared.place.Place.{Place}
use Rattle.places.specs.declared.place.Place.TheVariants.{Register, ToggleReset}
use Rattle.access.specs.Access.{display_state, answer_at, effect_at, answer}
use Rattle.access.specs.Checks.{is_write, is_passing, carries, is_port, bad_access, malformed, of_other_half}
use Rattle.places.specs.Lookup.{selects, matches, first, row_at, is_one_of}
use Rattle.places.specs.Places.{Row, any, places}
use Rattle.roads.specs.Roads.{by_half}
use Rattle.roads.specs.Plan.{port_read, to_index, toggle_read}
use Rattle.roads.specs.Restores.{accepted, RunsInto}
use Rattle.roads.specs.RegisterStage.{SpacesOn, Ready}
use Rattle.roads.proofs.ChecksPassed.{answered-by-place, does-as-place}
use Rattle.roads.proofs.RunsCompose.{runs-one}
use Rattle.roads.proofs.ReadyRuns.{spaces-on}

abbrev read_row : ℕ → Place → Row
read_row address place = record { kind = 2; address = address; index = any; width = 1; place = place }

read-runs : (f : File) (address value : ℕ) (place : Place) → T (sound f) → SpacesOn f → row_at f 2 address ≡ some (read_row address place)
    → of_other_half f (port_read address) ≡ false → answer_at false f place ≡ Done value → RunsInto f (port_read address ∷ []) (apply (effect_at false f place 0) f)
unfolding malformed bad_access is_write is_passing carries effect_at accepted code_of
read-runs f address value place s on e h done =
    runs-one f (port_read address) (apply (effect_at false f place 0) f) (rw answers tt) (does-as-place f (port_read address) (read_row address place) value e answers)
  where
    answers : answer f (port_read address) ≡ Done value
    answers =
        answered-by-place f (port_read address) (read_row address place)
        (record { is_sound = s; formed = refl; on = spaces-on f (port_read address) on; found = e; half = h; width = refl })
        ∙ done

-- by the half that MISC[0] has
reset_by : (f : File) → T (sound f) → SpacesOn f → (x : ℕ) → x < 2 → bit 0 (register f MISC) ≡ x
    → RunsInto f (port_read (cond (eqb x 1) 0x3DA 0x3BA) ∷ []) (with_toggle false f)
unfolding of_other_half is_port is_one_of answer_at effect_at apply row_at first matches selects places
reset_by f s on =
    by_bit (λ (x : ℕ). bit 0 (register f MISC) ≡ x → RunsInto f (port_read (cond (eqb x 1) 0x3DA 0x3BA) ∷ []) (with_toggle false f))
    (λ e. read-runs f 0x3BA (display_state f) ToggleReset s on refl (rw e) refl) (λ e. read-runs f 0x3DA (display_state f) ToggleReset s on refl (rw e) refl)

-- the toggle to index
pub reset_runs : (w : List ℕ) (f : File) → Ready w f → RunsInto f (to_index (get_or w MISC 0) ∷ []) (with_toggle false f)
unfolding by_half
reset_runs w f ready =
    reset_by f ready.is_sound ready.on (bit 0 (get_or w MISC 0)) (bit-lt 0 (get_or w MISC 0)) (ap (bit 0) ready.misc)

-- from data, to a wanted state
pub toggle-runs : (w : List ℕ) (f : File) (state : Bool) → Ready w f → f.state.toggle ≡ true
    → RunsInto f (toggle_read (get_or w MISC 0) state ∷ []) (with_toggle state f)
unfolding of_other_half is_port is_one_of answer_at effect_at apply row_at first matches selects places with_toggle
toggle-runs w f true ready t =
    subst (λ (b : Bool). RunsInto f (port_read 0x3C0 ∷ []) (with_toggle b f)) t
    (read-runs f 0x3C0 (register f ARX) (Register ARX) ready.is_sound ready.on refl refl refl)
toggle-runs w f false ready t = reset_runs w f ready
