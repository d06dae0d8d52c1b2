-- The records that make the marks, from before red of address 16 on: every one is accepted, the marks are as wanted, and all else but the pointer is
-- as before. Assumes nothing.
use Prim.Native.Nat.{ℕ, zero, suc}
use mathlib.Core.Path.{◌≡◌, refl, ◌∙◌, subst}
use mathlib.Core.Bool.{Bool, true, false, cond}
use mathlib.Core.List.{[], ◌∷◌}
use native.Mathlib.Omega.{arith}
use lib.Dec.{T, leb, leb→le, lit<}
use Rattle.bits.proofs.Test.{right}
use Rattle.file.specs.declared.answer.Answer.TheVariants.{Done}
use Rattle.file.specs.declared.palette.Pointer.{Pointer}
use Rattle.file.specs.declared.registers.File.{File}
use Rattle.file.specs.Answers.{code_of}
use Rattle.file.specs.Effects.{apply}
use Rattle.file.specs.Palette.{by_colour, addressed, moved, after_write, after_read, stores, marks_of, marked_direction, marked_read, marked_colour, marks_from, marks_sound, pointer_sound}
use Rattle.file.proofs.Soundness.{marks-parted}
use Rattle.places.specs.declared.place.Place.TheVariants.{PixelData}
use Rattle.places.specs.Lookup.{selects, matches, first, row_at}
use Rattle.places.specs.Places.{Row, any, places}
use Rattle.access.specs.Access.{answer_at, pixel_write, effect_at, shown_in, answer}
use Rattle.access.specs.Checks.{is_write, is_passing, carries, is_port, bad_access, malformed, of_other_half}
use Rattle.roads.specs.Plan.{mmio_read, pixel_step, marking}
use Rattle.roads.specs.Restores.{accepted, RunsInto}
use Rattle.roads.specs.ColourStage.{PaletteReady, between, with_step, write_blue}
use Rattle.roads.specs.StageEnds.{marked_pointer, marked}
use Rattle.roads.proofs.ChecksPassed.{answered-by-place, does-as-place}
use Rattle.roads.proofs.RunsCompose.{runs_none, runs-one, runs_then}
use Rattle.roads.proofs.ReadyRuns.{spaces-on}
use Rattle.roads.proofs.StretchRuns.{step-up, pixel-runs}

-- ---- one record

abbrev pixel_row : Row
pixel_row = record { kind = 4; address = 0xAC; index = any; width = 1; place = PixelData }

-- a read moves the pointer and is the last access
read-runs : (f : File) (bank : Bool) (p : Pointer) (m : ℕ) → PaletteReady f bank → T (marks_sound m) → T (pointer_sound p)
    → RunsInto (with_step p m f) (mmio_read 0xAC ∷ []) (with_step (after_read p) (marks_from true p) f)
unfolding row_at first matches selects places malformed bad_access of_other_half is_port is_write is_passing carries answer_at effect_at apply with_step accepted code_of
read-runs f bank p m up t s =
    runs-one (with_step p m f) (mmio_read 0xAC) (with_step (after_read p) (marks_from true p) f) (rw answers tt)
    (does-as-place (with_step p m f) (mmio_read 0xAC) pixel_row (shown_in (with_step p m f)) refl answers)
  where
    ready : PaletteReady (with_step p m f) bank
    ready = step-up f bank p m up t s

    answers : answer (with_step p m f) (mmio_read 0xAC) ≡ Done (shown_in (with_step p m f))
    answers =
        answered-by-place (with_step p m f) (mmio_read 0xAC) pixel_row
        (record { is_sound = ready.is_sound; formed = refl; on = spaces-on (with_step p m f) (mmio_read 0xAC) ready.on; found = refl; half = refl; width = refl })
        ∙ rw ready.up

-- at red, and at green
red-runs : (f : File) (bank reading : Bool) → PaletteReady f bank
    → RunsInto (with_step (addressed false 16) write_blue f) (pixel_step reading ∷ []) (with_step (between 16 1 0 0) (marks_of reading 0) f)
unfolding pixel_write stores after_write after_read moved marks_from apply with_step addressed marks_sound pointer_sound
red-runs f bank true up = read-runs f bank (addressed false 16) write_blue up tt tt
red-runs f bank false up = pixel-runs f bank (addressed false 16) write_blue 0 up tt tt (lit< tt)

green-runs : (f : File) (bank reading : Bool) → PaletteReady f bank
    → RunsInto (with_step (between 16 1 0 0) (marks_of reading 0) f) (pixel_step reading ∷ []) (with_step (between 16 2 0 0) (marks_of reading 1) f)
unfolding pixel_write stores after_write after_read moved marks_from apply with_step marks_sound pointer_sound
green-runs f bank true up = read-runs f bank (between 16 1 0 0) (marks_of true 0) up tt tt
green-runs f bank false up = pixel-runs f bank (between 16 1 0 0) (marks_of false 0) 0 up tt tt (lit< tt)

-- at blue a read alone, since a write stores an entry
blue-runs : (f : File) (bank : Bool) → PaletteReady f bank
    → RunsInto (with_step (between 16 2 0 0) (marks_of true 1) f) (mmio_read 0xAC ∷ []) (with_step (addressed false 17) (marks_of true 2) f)
unfolding after_read moved marks_from addressed marks_sound pointer_sound
blue-runs f bank up = read-runs f bank (between 16 2 0 0) (marks_of true 1) up tt tt

-- ---- all of them

two_run : (f : File) (bank reading : Bool) → PaletteReady f bank
    → RunsInto (with_step (addressed false 16) write_blue f) (pixel_step reading ∷ pixel_step reading ∷ []) (with_step (between 16 2 0 0) (marks_of reading 1) f)
two_run f bank reading up =
    runs_then (pixel_step reading ∷ []) (pixel_step reading ∷ []) (with_step (addressed false 16) write_blue f)
    (with_step (between 16 1 0 0) (marks_of reading 0) f) (with_step (between 16 2 0 0) (marks_of reading 1) f) (red-runs f bank reading up) (green-runs f bank reading up)

-- by direction and colour
by-marks : (f : File) (bank reading : Bool) (colour : ℕ) → PaletteReady f bank → T (leb colour 2)
    → RunsInto (with_step (addressed false 16) write_blue f) (marking (marks_of reading colour)) (marked (marks_of reading colour) f)
unfolding marking marked marked_pointer
by-marks f bank true zero up t = red-runs f bank true up
by-marks f bank false zero up t = red-runs f bank false up
by-marks f bank true (suc zero) up t = two_run f bank true up
by-marks f bank false (suc zero) up t = two_run f bank false up
by-marks f bank true (suc (suc zero)) up t =
    runs_then (pixel_step true ∷ pixel_step true ∷ []) (mmio_read 0xAC ∷ []) (with_step (addressed false 16) write_blue f)
    (with_step (between 16 2 0 0) (marks_of true 1) f) (with_step (addressed false 17) (marks_of true 2) f) (two_run f bank true up) (blue-runs f bank up)
by-marks f bank false (suc (suc zero)) up t = runs_none (with_step (addressed false 16) write_blue f)
by-marks f bank reading (suc (suc (suc colour))) up t = absurd (omega (arith, leb→le (suc (suc (suc colour))) 2 t))

pub steps-run : (f : File) (bank : Bool) (m : ℕ) → PaletteReady f bank → T (marks_sound m)
    → RunsInto (with_step (addressed false 16) write_blue f) (marking m) (marked m f)
unfolding marks_sound
steps-run f bank m up t =
    subst (λ (n : ℕ). RunsInto (with_step (addressed false 16) write_blue f) (marking n) (marked n f)) (marks-parted m t)
    (by-marks f bank (marked_read m) (marked_colour m) up (right (leb (marked_direction m) 1) (leb (marked_colour m) 2) t))

-- the pointer stays sound
pointer-sound-by : (reading : Bool) (colour : ℕ)
    → T (pointer_sound (by_colour colour (between 16 1 0 0) (between 16 2 0 0) (addressed false (cond reading 17 16))))
unfolding addressed pointer_sound
pointer-sound-by reading zero = tt
pointer-sound-by reading (suc zero) = tt
pointer-sound-by reading (suc (suc colour)) = tt

pub marked-pointer-sound : (m : ℕ) → T (pointer_sound (marked_pointer m))
unfolding marked_pointer
marked-pointer-sound m = pointer-sound-by (marked_read m) (marked_colour m)
