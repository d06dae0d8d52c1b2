-- `write_place` meets its contract. Assumes nothing.
use mathlib.Core.Bool.{true, false}
use mathlib.Core.Path.{refl, sym, ◌∙◌}
use Rattle.file.specs.declared.answer.Answer.TheVariants.{NoRegister, ReadOnly}
use Rattle.file.specs.Answers.{code_of, value_of}
use Rattle.file.specs.File.{seen}
use Rattle.places.specs.declared.place.Place.TheVariants.{Register, Attribute, Fixed, DeviceId, ToggleState, AttributeIndex, PaletteState, VPortState, ReadAddress, WriteAddress, PixelData, ToggleReset, Unnamed, UnnamedAttribute, CurrentLine, Passing}
use Rattle.places.specs.EngineCells.{taken}
use Rattle.places.specs.Profile.{profile}
use Rattle.places.proofs.CellsInFile.{plain-in-file}
use Rattle.access.specs.Access.{write_answer, write_effect}
use Rattle.access.proofs.PassedChecks.{register-below}
use Rattle.quick.proofs.Parts.{turned_by, says, write-there, only-write}
use Rattle.quick.proofs.RegistersStored.{storing}
use Rattle.quick.proofs.PixelsTurned.{pixel-alike, address-alike}
use Rattle.quick.proofs.PlainPlaces.{kept-codes, is_plain, never-plain}
use Rattle.quick.proofs.turning.write_place.Goals as goal

pub write_register-requires : goal.write_register-requires
write_register-requires c = register-below _ _ (sym c.plain.ensures ∙ c.in-Register.is) (plain-in-file _)

pub returns-in-Register : goal.returns-in-Register
unfolding profile seen
returns-in-Register c = (λ s e. write-there (seen c.args.registers.now s) c.args.cell (Register _) (sym c.plain.ensures ∙ c.in-Register.is) _ c.write_register.result _ _ _ (storing _ (seen c.args.registers.now s) _ _ _ _ c.write_register.result c.write_register.ensures.0 e), c.write_register.ensures.1)

pub returns-in-Attribute : goal.returns-in-Attribute
unfolding is_plain
returns-in-Attribute c = never-plain c.args.cell (Attribute _) (sym c.plain.ensures ∙ c.in-Attribute.is) refl

pub returns-in-PaletteState : goal.returns-in-PaletteState
unfolding profile seen
returns-in-PaletteState c = (λ s e. write-there (seen c.args.registers.now s) c.args.cell PaletteState (sym c.plain.ensures ∙ c.in-PaletteState.is) _ c.write_free.result _ _ _ (storing _ (seen c.args.registers.now s) _ _ _ _ c.write_free.result c.write_free.ensures.0 e), c.write_free.ensures.1 _)

pub returns-in-VPortState : goal.returns-in-VPortState
unfolding profile seen
returns-in-VPortState c = (λ s e. write-there (seen c.args.registers.now s) c.args.cell VPortState (sym c.plain.ensures ∙ c.in-VPortState.is) _ c.write_free-in-VPortState.result _ _ _ (storing _ (seen c.args.registers.now s) _ _ _ _ c.write_free-in-VPortState.result c.write_free-in-VPortState.ensures.0 e), c.write_free-in-VPortState.ensures.1 _)

pub returns-in-ReadAddress : goal.returns-in-ReadAddress
unfolding profile
returns-in-ReadAddress c = (
  λ s e.
      write-there (seen c.args.registers.now s) c.args.cell ReadAddress (sym c.plain.ensures ∙ c.in-ReadAddress.is) _ c.set_address.result _ _ _
      (turned_by (address-alike _ (seen c.args.registers.now s) true _ _ refl) (c.set_address.ensures c.args.registers.now s e refl)),
  kept-codes _ _,
)

pub returns-in-WriteAddress : goal.returns-in-WriteAddress
unfolding profile
returns-in-WriteAddress c = (
  λ s e.
      write-there (seen c.args.registers.now s) c.args.cell WriteAddress (sym c.plain.ensures ∙ c.in-WriteAddress.is) _ c.set_address-in-WriteAddress.result _ _ _
      (turned_by (address-alike _ (seen c.args.registers.now s) false _ _ refl) (c.set_address-in-WriteAddress.ensures c.args.registers.now s e refl)),
  kept-codes _ _,
)

pub returns-in-PixelData : goal.returns-in-PixelData
unfolding profile
returns-in-PixelData c = (
  λ s e.
      write-there (seen c.args.registers.now s) c.args.cell PixelData (sym c.plain.ensures ∙ c.in-PixelData.is) _ c.write_pixel.result _ _ _
      (turned_by (pixel-alike _ (seen c.args.registers.now s) _ _ refl) (c.write_pixel.ensures s e)),
  kept-codes _ _,
)

pub returns-in-Unnamed : goal.returns-in-Unnamed
unfolding profile write_answer write_effect taken code_of value_of seen
returns-in-Unnamed c = (λ s e. only-write (seen c.args.registers.now s) c.args.cell Unnamed (sym c.plain.ensures ∙ c.in-Unnamed.is) _ c.told-in-Unnamed.result _ _ e refl (says NoRegister c.told-in-Unnamed.ensures refl refl), kept-codes _ _)

pub returns-in-UnnamedAttribute : goal.returns-in-UnnamedAttribute
unfolding is_plain
returns-in-UnnamedAttribute c = never-plain c.args.cell UnnamedAttribute (sym c.plain.ensures ∙ c.in-UnnamedAttribute.is) refl

pub returns-in-Fixed : goal.returns-in-Fixed
unfolding profile write_answer write_effect taken code_of value_of seen
returns-in-Fixed c = (λ s e. only-write (seen c.args.registers.now s) c.args.cell (Fixed _) (sym c.plain.ensures ∙ c.in-Fixed.is) _ c.told-in-Fixed.result _ _ e refl (says ReadOnly c.told-in-Fixed.ensures refl refl), kept-codes _ _)

pub returns-in-DeviceId : goal.returns-in-DeviceId
unfolding profile write_answer write_effect taken code_of value_of seen
returns-in-DeviceId c = (λ s e. only-write (seen c.args.registers.now s) c.args.cell DeviceId (sym c.plain.ensures ∙ c.in-DeviceId.is) _ c.told-in-DeviceId.result _ _ e refl (says ReadOnly c.told-in-DeviceId.ensures refl refl), kept-codes _ _)

pub returns-in-ToggleState : goal.returns-in-ToggleState
unfolding profile write_answer write_effect taken code_of value_of seen
returns-in-ToggleState c = (λ s e. only-write (seen c.args.registers.now s) c.args.cell ToggleState (sym c.plain.ensures ∙ c.in-ToggleState.is) _ c.told-in-ToggleState.result _ _ e refl (says ReadOnly c.told-in-ToggleState.ensures refl refl), kept-codes _ _)

pub returns-in-AttributeIndex : goal.returns-in-AttributeIndex
unfolding profile write_answer write_effect taken code_of value_of seen
returns-in-AttributeIndex c = (λ s e. only-write (seen c.args.registers.now s) c.args.cell AttributeIndex (sym c.plain.ensures ∙ c.in-AttributeIndex.is) _ c.told-in-AttributeIndex.result _ _ e refl (says ReadOnly c.told-in-AttributeIndex.ensures refl refl), kept-codes _ _)

pub returns-in-ToggleReset : goal.returns-in-ToggleReset
unfolding profile write_answer write_effect taken code_of value_of seen
returns-in-ToggleReset c = (λ s e. only-write (seen c.args.registers.now s) c.args.cell ToggleReset (sym c.plain.ensures ∙ c.in-ToggleReset.is) _ c.told-in-ToggleReset.result _ _ e refl (says ReadOnly c.told-in-ToggleReset.ensures refl refl), kept-codes _ _)

pub returns-in-CurrentLine : goal.returns-in-CurrentLine
unfolding profile write_answer write_effect taken code_of value_of seen
returns-in-CurrentLine c = (λ s e. only-write (seen c.args.registers.now s) c.args.cell CurrentLine (sym c.plain.ensures ∙ c.in-CurrentLine.is) _ c.told-in-CurrentLine.result _ _ e refl (says ReadOnly c.told-in-CurrentLine.ensures refl refl), kept-codes _ _)

pub returns-in-Passing : goal.returns-in-Passing
unfolding is_plain
returns-in-Passing c = never-plain c.args.cell Passing (sym c.plain.ensures ∙ c.in-Passing.is) refl
