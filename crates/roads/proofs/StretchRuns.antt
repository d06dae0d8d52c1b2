-- A stretch of entries of the palette or of the bank, from any entry on: every record is accepted, the entries hold the colours, and all else but
-- the pointer and the marks is as before. Assumes nothing.
use Prim.Native.Nat.{ℕ, suc, ◌+◌, ◌%◌, ◌≤◌, ◌<◌}
use mathlib.Core.Path.{◌≡◌, refl, sym, ap, ap₂, ◌∙◌, subst, subst₂}
use mathlib.Core.Bool.{Bool, true, false, cond}
use mathlib.Core.List.{List, [], ◌∷◌}
use mathlib.Core.Option.{some}
use native.Mathlib.Nat.{add-zero, mod-eq_of_lt}
use native.Mathlib.Omega.{arith}
use borrow.Author.Tests.{lt-leb}
use lib.Dec.{T, leb, ltb, leb→le, ltb→lt}
use lib.ListN.{length}
use Rattle.bits.proofs.Test.{left, right, both}
use Rattle.file.specs.declared.answer.Answer.TheVariants.{Done}
use Rattle.file.specs.declared.chip.Chip.{Chip}
use Rattle.file.specs.declared.palette.Colour.{Colour}
use Rattle.file.specs.declared.palette.Pointer.{Pointer}
use Rattle.file.specs.declared.registers.File.{File}
use Rattle.file.specs.declared.state.State.{State}
use Rattle.file.specs.Answers.{code_of}
use Rattle.file.specs.Effects.{apply, paint_in}
use Rattle.file.specs.File.{register, with_registers, with_palette, with_bank, with_pointer, with_state}
use Rattle.file.specs.State.{stepping, state_sound}
use Rattle.file.specs.Palette.{addressed, moved, after_write, stores, mixed, marks_of, marks_from, marks_sound, pointer_sound}
use Rattle.file.specs.Registers.{stored_table, sequencer, crtc, graphics, attribute, pipeline}
use Rattle.file.specs.Sound.{all_within, sound}
use Rattle.file.proofs.Soundness.{paint-keeps, sound-by, registers-sound, state-sound, stepping-sound, marks-sound, paint-keeps-state}
use Rattle.places.specs.declared.place.Place.{Place}
use Rattle.places.specs.declared.place.Place.TheVariants.{ReadAddress, WriteAddress, PixelData}
use Rattle.access.specs.Access.{palette_up, in_bank, entry_number, answer_at, pixel_write, effect_at, answer}
use Rattle.access.specs.Checks.{is_write, is_passing, carries, is_port, bad_access, malformed, of_other_half}
use Rattle.places.specs.Lookup.{selects, matches, first, row_at}
use Rattle.places.specs.Places.{Row, any, places}
use Rattle.roads.specs.Plan.{mmio_write, pixel, pixels, entries}
use Rattle.roads.specs.Restores.{accepted, RunsInto, bytes}
use Rattle.roads.specs.RegisterStage.{SpacesOn}
use Rattle.roads.specs.ColourStage.{PaletteReady, entry_count, between, painted, Stretch, in_range, with_step, write_blue, marks_after, after_stretch}
use Rattle.roads.proofs.ChecksPassed.{answered-by-place, does-as-place}
use Rattle.roads.proofs.RunsCompose.{runs_none, runs-one, runs_then}
use Rattle.roads.proofs.ReadyRuns.{spaces-on}

-- ---- a byte written to a place of MMIO

abbrev byte_row : ℕ → Place → Row
byte_row address place = record { kind = 5; address = address; index = any; width = 1; place = place }

pub byte-runs : (f : File) (address value : ℕ) (place : Place) → T (sound f) → SpacesOn f → value < 256
    → row_at f 5 address ≡ some (byte_row address place) → answer_at true f place ≡ Done 0
    → RunsInto f (mmio_write address value ∷ []) (apply (effect_at true f place value) f)
unfolding malformed bad_access of_other_half is_port is_write is_passing carries effect_at accepted code_of
byte-runs f address value place s on h e done =
    runs-one f (mmio_write address value) (apply (effect_at true f place value) f) (rw answers tt)
    (does-as-place f (mmio_write address value) (byte_row address place) 0 e answers)
  where
    answers : answer f (mmio_write address value) ≡ Done 0
    answers =
        answered-by-place f (mmio_write address value) (byte_row address place)
        (record { is_sound = s; formed = lt-leb 256 value h; on = spaces-on f (mmio_write address value) on; found = e; half = refl; width = refl })
        ∙ done

-- 'Writing 3C7h or 3C8h sets the address and the mode'
pub address-runs : (f : File) (reading : Bool) (value : ℕ) → T (sound f) → SpacesOn f → value < 256
    → RunsInto f (mmio_write (cond reading 0xA4 0xA8) value ∷ []) (with_pointer (addressed reading value) f)
unfolding row_at first matches selects places answer_at effect_at apply
address-runs f true value s on h = byte-runs f 0xA4 value ReadAddress s on h refl refl
address-runs f false value s on h = byte-runs f 0xA8 value WriteAddress s on h refl refl

-- ---- three bytes of an entry

-- that a file lets colours through is said by its registers and its chip
pub up-as : (f g : File) (bank : Bool) → g.registers ≡ f.registers → g.state.chip ≡ f.state.chip → T (state_sound g.state) → PaletteReady f bank → PaletteReady g bank
unfolding SpacesOn palette_up in_bank register with_registers
up-as f g bank e chip t up =
    record {
      is_sound = sound-by g (subst₂ (λ (c : Chip) (rs : List ℕ). T (all_within (stored_table c) rs)) (sym chip) (sym e) (registers-sound f up.is_sound)) t;
      on = subst (λ (rs : List ℕ). SpacesOn (with_registers rs f)) (sym e) up.on;
      up = subst (λ (rs : List ℕ). palette_up (with_registers rs f) ≡ true) (sym e) up.up;
      chosen = subst (λ (rs : List ℕ). in_bank (with_registers rs f) ≡ bank) (sym e) up.chosen;
    }

-- another pointer and other marks leave it so
pub step-up : (f : File) (bank : Bool) (p : Pointer) (m : ℕ) → PaletteReady f bank → T (marks_sound m) → T (pointer_sound p)
    → PaletteReady (with_step p m f) bank
unfolding with_step
step-up f bank p m up t h = up-as f (with_step p m f) bank refl refl (stepping-sound p m f.state (both (marks_sound m) (pointer_sound p) t h) (state-sound f up.is_sound)) up

pub pixel-runs : (f : File) (bank : Bool) (p : Pointer) (m : ℕ) (value : ℕ) → PaletteReady f bank → T (marks_sound m) → T (pointer_sound p) → value < 256
    → RunsInto (with_step p m f) (mmio_write 0xAC value ∷ []) (apply (pixel_write (with_step p m f) value) (with_step p m f))
unfolding row_at first matches selects places answer_at effect_at
pixel-runs f bank p m value up t s h =
    let ready = step-up f bank p m up t s in
    byte-runs (with_step p m f) 0xAC value PixelData ready.is_sound ready.on h refl (rw ready.up)

-- the entry that an address means
entry_at : (bank : Bool) (entry : ℕ) → entry < entry_count bank → cond bank (entry % 256 % 16) (entry % 256) ≡ entry
entry_at true entry h = omega arith
entry_at false entry h = omega arith

-- the pointer and the marks that stood before the entry was stored do not matter
repainted : (bank : Bool) (entry : ℕ) (c : Colour) (p q : Pointer) (m n : ℕ) (f : File)
    → with_state (stepping q n (with_step p m f).state) (paint_in bank entry c (with_step p m f)) ≡ with_step q n (paint_in bank entry c f)
unfolding paint_in with_step
repainted true entry c p q m n f = refl
repainted false entry c p q m n f = refl

-- what the third byte leaves
third-leaves : (f : File) (bank : Bool) (entry : ℕ) (c : Colour) (m : ℕ) → PaletteReady f bank → entry < entry_count bank
    → apply (pixel_write (with_step (between (entry % 256) 2 c.red c.green) m f) c.blue) (with_step (between (entry % 256) 2 c.red c.green) m f)
    ≡ with_step (addressed false (suc entry % 256)) write_blue (paint_in bank entry c f)
unfolding pixel_write stores after_write moved mixed marks_from apply with_step addressed in_bank entry_number register
third-leaves f bank entry c m up h =
    rw (up.chosen, entry_at bank entry h) (ap (λ (a : ℕ). with_state (stepping (addressed false a) write_blue f.state) (paint_in bank entry c (with_step (between (entry % 256) 2 c.red c.green) m f))) next
    ∙ repainted bank entry c (between (entry % 256) 2 c.red c.green) (addressed false (suc entry % 256)) m write_blue f)
  where
    next : (entry % 256 + 1) % 256 ≡ suc entry % 256
    next = omega arith

-- the three writes of an entry
entry_runs : (f : File) (bank : Bool) (entry : ℕ) (c : Colour) (m : ℕ) → PaletteReady f bank → T (marks_sound m) → entry < entry_count bank
    → c.red < 256 → c.green < 256 → c.blue < 256
    → RunsInto (with_step (addressed false (entry % 256)) m f) (mmio_write 0xAC c.red ∷ mmio_write 0xAC c.green ∷ mmio_write 0xAC c.blue ∷ [])
    (with_step (addressed false (suc entry % 256)) write_blue (paint_in bank entry c f))
unfolding pixel_write stores after_write moved marks_from apply with_step addressed marks_sound pointer_sound
entry_runs f bank entry c m up t h r g b =
    runs_then (mmio_write 0xAC c.red ∷ []) (mmio_write 0xAC c.green ∷ mmio_write 0xAC c.blue ∷ [])
    (with_step (addressed false (entry % 256)) m f) (with_step (between (entry % 256) 1 c.red 0) (marks_of false 0) f)
    (with_step (addressed false (suc entry % 256)) write_blue (paint_in bank entry c f))
    (pixel-runs f bank (addressed false (entry % 256)) m c.red up t tt r)
    (runs_then (mmio_write 0xAC c.green ∷ []) (mmio_write 0xAC c.blue ∷ [])
    (with_step (between (entry % 256) 1 c.red 0) (marks_of false 0) f) (with_step (between (entry % 256) 2 c.red c.green) (marks_of false 1) f)
    (with_step (addressed false (suc entry % 256)) write_blue (paint_in bank entry c f))
    (pixel-runs f bank (between (entry % 256) 1 c.red 0) (marks_of false 0) c.green up tt tt g)
    (subst (λ (x : File). RunsInto (with_step (between (entry % 256) 2 c.red c.green) (marks_of false 1) f) (mmio_write 0xAC c.blue ∷ []) x)
    (third-leaves f bank entry c (marks_of false 1) up h)
    (pixel-runs f bank (between (entry % 256) 2 c.red c.green) (marks_of false 1) c.blue up tt tt b)))

-- ---- a stretch of entries

painted-none : (bank : Bool) (first : ℕ) (f : File) → f ≡ painted bank first [] f
unfolding painted with_bank with_palette
painted-none true first f = refl
painted-none false first f = refl

painted-next : (bank : Bool) (first : ℕ) (c : Colour) (cs : List Colour) (f : File)
    → painted bank (suc first) cs (paint_in bank first c f) ≡ painted bank first (c ∷ cs) f
unfolding painted paint_in with_bank with_palette
painted-next true first c cs f = refl
painted-next false first c cs f = refl

pub painted-state : (bank : Bool) (first : ℕ) (cs : List Colour) (f : File) → (painted bank first cs f).state ≡ f.state
unfolding painted with_bank with_palette
painted-state true first cs f = refl
painted-state false first cs f = refl

pub painted-registers : (bank : Bool) (first : ℕ) (cs : List Colour) (f : File) → (painted bank first cs f).registers ≡ f.registers
unfolding painted with_bank with_palette
painted-registers true first cs f = refl
painted-registers false first cs f = refl

-- after an entry the marks stay at write, blue
blue-stays : (cs : List Colour) → marks_after write_blue cs ≡ write_blue
unfolding marks_after
blue-stays [] = refl
blue-stays (c ∷ cs) = refl

pixels-run : (cs : List Colour) (f : File) (bank : Bool) (first : ℕ) (m : ℕ) → PaletteReady f bank → T (marks_sound m)
    → first + length cs ≤ entry_count bank → T (bytes cs)
    → RunsInto (with_step (addressed false (first % 256)) m f) (pixels cs)
    (with_step (addressed false ((first + length cs) % 256)) (marks_after m cs) (painted bank first cs f))
unfolding pixels pixel bytes marks_after marks_sound
pixels-run [] f bank first m up s h t =
    subst (λ (g : File). RunsInto (with_step (addressed false (first % 256)) m f) [] g)
    (ap₂ (λ (n : ℕ) (g : File). with_step (addressed false (n % 256)) m g) (sym (add-zero first)) (painted-none bank first f))
    (runs_none (with_step (addressed false (first % 256)) m f))
pixels-run (c ∷ cs) f bank first m up s h t =
    runs_then (mmio_write 0xAC c.red ∷ mmio_write 0xAC c.green ∷ mmio_write 0xAC c.blue ∷ []) (pixels cs)
    (with_step (addressed false (first % 256)) m f) (with_step (addressed false (suc first % 256)) write_blue (paint_in bank first c f))
    (with_step (addressed false ((first + suc (length cs)) % 256)) write_blue (painted bank first (c ∷ cs) f))
    (entry_runs f bank first c m up s (omega arith) (ltb→lt c.red 256 (search (left, right))) (ltb→lt c.green 256 (search (left, right)))
    (ltb→lt c.blue 256 (search (left, right))))
    (subst (λ (n : ℕ). RunsInto (with_step (addressed false (suc first % 256)) write_blue (paint_in bank first c f)) (pixels cs) (with_step (addressed false ((first + suc (length cs)) % 256)) n (painted bank first (c ∷ cs) f)))
    (blue-stays cs)
    (subst (λ (g : File). RunsInto (with_step (addressed false (suc first % 256)) write_blue (paint_in bank first c f)) (pixels cs) g)
    (ap₂ (λ (n : ℕ) (g : File). with_step (addressed false (n % 256)) (marks_after write_blue cs) g) onward (painted-next bank first c cs f))
    (pixels-run cs (paint_in bank first c f) bank (suc first) write_blue (up-as f (paint_in bank first c f) bank (paint-keeps f bank first c) (ap (λ (q : State). q.chip) (paint-keeps-state f bank first c))
    (subst (λ (q : State). T (state_sound q)) (sym (paint-keeps-state f bank first c)) (state-sound f up.is_sound)) up) tt
    (omega arith) (search (left, right)))))
  where
    onward : suc first + length cs ≡ first + suc (length cs)
    onward = omega arith

-- every record of a stretch is accepted, and its entries hold its colours
pub stretch-runs : (stretch : Stretch) (f : File) (bank : Bool) → T (sound f) → PaletteReady f bank → T (in_range bank stretch)
    → RunsInto f (entries stretch.first stretch.colours) (after_stretch bank stretch f)
unfolding entries in_range after_stretch with_step with_pointer
stretch-runs stretch f bank s up t =
    runs_then (mmio_write 0xA8 stretch.first ∷ []) (pixels stretch.colours) f (with_pointer (addressed false (stretch.first % 256)) f) (after_stretch bank stretch f)
    (rw (mod-eq_of_lt small) (address-runs f false stretch.first s up.on small))
    (pixels-run stretch.colours f bank stretch.first f.state.marks up (marks-sound f s)
    (leb→le (stretch.first + length stretch.colours) (entry_count bank) (search (left, right))) (search (left, right)))
  where
    small : stretch.first < 256
    small = ltb→lt stretch.first 256 (search (left, right))
