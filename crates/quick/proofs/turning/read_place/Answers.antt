-- `read_place` meets its contract. Assumes nothing.
use Prim.Native.Nat.{ℕ}
use mathlib.Core.Bool.{Bool, false, cond}
use mathlib.Core.List.{List}
use mathlib.Core.Path.{refl, sym, ap, ◌∙◌}
use native.Mathlib.Omega.{arith}
use lib.Dec.{eqb}
use lib.ListN.{get_or, set}
use Rattle.bits.specs.Store.{store as storeBits}
use Rattle.file.specs.declared.answer.Answer.TheVariants.{Done}
use Rattle.file.specs.declared.effect.Effect.TheVariants.{Toggle}
use Rattle.file.specs.declared.state.State.{State}
use Rattle.file.specs.Answers.{code_of, value_of, refused}
use Rattle.file.specs.Chips.{pci02}
use Rattle.file.specs.Effects.{apply}
use Rattle.file.specs.File.{seen, register}
use Rattle.file.specs.Names.{B0}
use Rattle.file.specs.Palette.{dac_state}
use Rattle.file.specs.State.{toggling}
use Rattle.places.specs.declared.place.Place.TheVariants.{Register, Attribute, Fixed, DeviceId, ToggleState, AttributeIndex, PaletteState, VPortState, ReadAddress, WriteAddress, PixelData, ToggleReset, Unnamed, UnnamedAttribute, CurrentLine, Passing}
use Rattle.places.specs.Profile.{profile, reads_pixel}
use Rattle.places.proofs.CellsInFile.{plain-in-file}
use Rattle.access.specs.Access.{shown_state, answer_of_read, read_effect, v_port_state, line_shown, display_state}
use Rattle.access.specs.Engine.{decided_read}
use Rattle.access.proofs.PassedChecks.{register-below, attribute-below}
use Rattle.quick.specs.Painting.{paints}
use Rattle.quick.specs.Smalls.{smalls_of}
use Rattle.quick.proofs.Parts.{bit-back, same-state, says, made, read-there, only-read}
use Rattle.quick.proofs.turning.read_place.Goals as goal

pub offset_bounds-registers-number : goal.offset_bounds-registers-number
offset_bounds-registers-number c = record { fits = omega (arith, register-below _ _ (sym c.plain.ensures ∙ c.in-Register.is) (plain-in-file _)) }

pub bounds-registers-number : goal.bounds-registers-number
bounds-registers-number c = register-below _ _ (sym c.plain.ensures ∙ c.in-Register.is) (plain-in-file _)

pub offset_bounds-registers-number-in-Attribute : goal.offset_bounds-registers-number-in-Attribute
offset_bounds-registers-number-in-Attribute c = record { fits = omega (arith, attribute-below _ _ (sym c.plain.ensures ∙ c.in-Attribute.is) (plain-in-file _)) }

pub bounds-registers-number-in-Attribute : goal.bounds-registers-number-in-Attribute
bounds-registers-number-in-Attribute c = attribute-below _ _ (sym c.plain.ensures ∙ c.in-Attribute.is) (plain-in-file _)

pub returns-in-Register : goal.returns-in-Register
unfolding profile answer_of_read read_effect reads_pixel code_of value_of seen register dac_state smalls_of
returns-in-Register c =
    λ s e same-chip same_line.
    only-read (seen c.args.registers.now s) c.args.cell (Register _) (sym c.plain.ensures ∙ c.in-Register.is) _ c.told.result e refl refl (says _ c.told.ensures refl (refl))

pub returns-in-Attribute : goal.returns-in-Attribute
unfolding profile answer_of_read read_effect reads_pixel code_of value_of seen register dac_state smalls_of
returns-in-Attribute c =
    λ s e same-chip same_line.
    only-read (seen c.args.registers.now s) c.args.cell (Attribute _) (sym c.plain.ensures ∙ c.in-Attribute.is) _ c.told-in-Attribute.result e refl refl (says _ c.told-in-Attribute.ensures refl (refl))

pub returns-in-Fixed : goal.returns-in-Fixed
unfolding profile answer_of_read read_effect reads_pixel code_of value_of seen register dac_state smalls_of
returns-in-Fixed c =
    λ s e same-chip same_line.
    only-read (seen c.args.registers.now s) c.args.cell (Fixed _) (sym c.plain.ensures ∙ c.in-Fixed.is) _ c.told-in-Fixed.result e refl refl (says _ c.told-in-Fixed.ensures refl (refl))

pub returns-in-DeviceId : goal.returns-in-DeviceId
unfolding profile answer_of_read read_effect reads_pixel code_of value_of seen register dac_state smalls_of
returns-in-DeviceId c =
    λ s e same-chip same_line.
    only-read (seen c.args.registers.now s) c.args.cell DeviceId (sym c.plain.ensures ∙ c.in-DeviceId.is) _ c.told-in-DeviceId.result e refl refl (says _ c.told-in-DeviceId.ensures refl (c.device_id.ensures ∙ ap pci02 same-chip))

pub returns-in-ToggleState : goal.returns-in-ToggleState
unfolding profile answer_of_read read_effect reads_pixel code_of value_of seen register dac_state smalls_of
returns-in-ToggleState c =
    λ s e same-chip same_line.
    only-read (seen c.args.registers.now s) c.args.cell ToggleState (sym c.plain.ensures ∙ c.in-ToggleState.is) _ c.told-in-ToggleState.result e refl refl (says _ c.told-in-ToggleState.ensures refl (c.byte_if.ensures ∙ ap (λ (b : Bool). cond b 0x80 0x00) (ap (λ (l : List ℕ). eqb (get_or l 6 0) 1) e ∙ bit-back s.toggle)))

pub returns-in-AttributeIndex : goal.returns-in-AttributeIndex
unfolding profile answer_of_read read_effect reads_pixel code_of value_of seen register dac_state smalls_of
returns-in-AttributeIndex c =
    λ s e same-chip same_line.
    only-read (seen c.args.registers.now s) c.args.cell AttributeIndex (sym c.plain.ensures ∙ c.in-AttributeIndex.is) _ c.told-in-AttributeIndex.result e refl refl (says _ c.told-in-AttributeIndex.ensures refl (refl))

pub returns-in-PaletteState : goal.returns-in-PaletteState
unfolding profile answer_of_read read_effect reads_pixel code_of value_of seen register dac_state smalls_of
returns-in-PaletteState c =
    λ s e same-chip same_line.
    only-read (seen c.args.registers.now s) c.args.cell PaletteState (sym c.plain.ensures ∙ c.in-PaletteState.is) _ c.told-in-PaletteState.result e refl refl (says _ c.told-in-PaletteState.ensures refl (c.palette_state.ensures ∙ ap (λ (m : ℕ). storeBits shown_state (get_or c.args.registers.now B0 0) m) (ap (λ (x : State). x.marks) (c.state_in.ensures ∙ same-state s same-chip same_line e))))

pub returns-in-VPortState : goal.returns-in-VPortState
unfolding profile answer_of_read read_effect reads_pixel code_of value_of seen register dac_state smalls_of
returns-in-VPortState c =
    λ s e same-chip same_line.
    only-read (seen c.args.registers.now s) c.args.cell VPortState (sym c.plain.ensures ∙ c.in-VPortState.is) _ c.told-in-VPortState.result e refl refl (says _ c.told-in-VPortState.ensures refl (c.v_port_state.ensures ∙ ap (λ (x : State). v_port_state (seen c.args.registers.now x)) (c.state_in-in-VPortState.ensures ∙ same-state s same-chip same_line e)))

pub returns-in-ReadAddress : goal.returns-in-ReadAddress
unfolding profile answer_of_read read_effect reads_pixel code_of value_of seen register dac_state smalls_of
returns-in-ReadAddress c =
    λ s e same-chip same_line.
    only-read (seen c.args.registers.now s) c.args.cell ReadAddress (sym c.plain.ensures ∙ c.in-ReadAddress.is) _ c.told-in-ReadAddress.result e refl refl (says _ c.told-in-ReadAddress.ensures refl (c.byte_if-in-ReadAddress.ensures ∙ ap (λ (b : Bool). cond b 3 0) (ap (λ (l : List ℕ). eqb (get_or l 1 0) 1) e ∙ bit-back s.pointer.reading)))

pub returns-in-WriteAddress : goal.returns-in-WriteAddress
unfolding profile answer_of_read read_effect reads_pixel code_of value_of seen register dac_state smalls_of
returns-in-WriteAddress c =
    λ s e same-chip same_line.
    only-read (seen c.args.registers.now s) c.args.cell WriteAddress (sym c.plain.ensures ∙ c.in-WriteAddress.is) _ c.told-in-WriteAddress.result e refl refl (says _ c.told-in-WriteAddress.ensures refl (c.from.ensures ∙ ap (λ (l : List ℕ). get_or l 0 0) e))

pub returns-in-PixelData : goal.returns-in-PixelData
unfolding profile
returns-in-PixelData c =
    λ s e same-chip same_line.
    read-there (seen c.args.registers.now s) c.args.cell PixelData (sym c.plain.ensures ∙ c.in-PixelData.is) _ c.read_pixel.result _ (c.read_pixel.ensures s e)

pub returns-in-ToggleReset : goal.returns-in-ToggleReset
unfolding profile decided_read answer_of_read read_effect reads_pixel refused code_of value_of seen apply paints smalls_of toggling
returns-in-ToggleReset c =
    λ s e same-chip same_line.
    read-there (seen c.args.registers.now s) c.args.cell ToggleReset (sym c.plain.ensures ∙ c.in-ToggleReset.is) _ c.told-in-ToggleReset.result c.args.registers.now
    (made (Done _) (Toggle false) (seen c.args.registers.now s) (decided_read (seen c.args.registers.now s) (profile ToggleReset).reading) c.told-in-ToggleReset.result _ _ refl
    (says (Done (display_state (seen c.args.registers.now s))) c.told-in-ToggleReset.ensures refl (c.display-value.ensures ∙ ap (λ (x : State). display_state (seen c.args.registers.now x)) (same-state s same-chip same_line e)))
    refl refl (ap (λ (l : List ℕ). set l 6 0) e) refl)

pub returns-in-Unnamed : goal.returns-in-Unnamed
unfolding profile answer_of_read read_effect reads_pixel code_of value_of seen register dac_state smalls_of
returns-in-Unnamed c =
    λ s e same-chip same_line.
    only-read (seen c.args.registers.now s) c.args.cell Unnamed (sym c.plain.ensures ∙ c.in-Unnamed.is) _ c.told-in-Unnamed.result e refl refl (says _ c.told-in-Unnamed.ensures refl (refl))

pub returns-in-UnnamedAttribute : goal.returns-in-UnnamedAttribute
unfolding profile answer_of_read read_effect reads_pixel code_of value_of seen register dac_state smalls_of
returns-in-UnnamedAttribute c =
    λ s e same-chip same_line.
    only-read (seen c.args.registers.now s) c.args.cell UnnamedAttribute (sym c.plain.ensures ∙ c.in-UnnamedAttribute.is) _ c.told-in-UnnamedAttribute.result e refl refl (says _ c.told-in-UnnamedAttribute.ensures refl (refl))

pub returns-in-CurrentLine : goal.returns-in-CurrentLine
unfolding profile answer_of_read read_effect reads_pixel code_of value_of seen register dac_state smalls_of
returns-in-CurrentLine c =
    λ s e same-chip same_line.
    only-read (seen c.args.registers.now s) c.args.cell CurrentLine (sym c.plain.ensures ∙ c.in-CurrentLine.is) _ c.told-in-CurrentLine.result e refl refl (says _ c.told-in-CurrentLine.ensures refl (c.line_shown.ensures ∙ ap (λ (x : State). line_shown (seen c.args.registers.now x)) (c.state_in-in-CurrentLine.ensures ∙ same-state s same-chip same_line e)))

pub returns-in-Passing : goal.returns-in-Passing
unfolding profile answer_of_read read_effect reads_pixel code_of value_of seen register dac_state smalls_of
returns-in-Passing c =
    λ s e same-chip same_line.
    only-read (seen c.args.registers.now s) c.args.cell Passing (sym c.plain.ensures ∙ c.in-Passing.is) _ c.told-in-Passing.result e refl refl (says _ c.told-in-Passing.ensures refl (refl))
