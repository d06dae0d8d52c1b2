-- `slots::number_of` meets its contract. Assumes nothing.
use Rattle.std.proofs.Common.{◌≡◌, refl}
use denote.Enum.Declared.{tag_of}
use Rattle.options.specs.contracts.types.Slot.{the_type}
use Rattle.options.specs.declared.types.Slot.{Slot}
use Rattle.options.specs.declared.types.Slot.TheVariants.{Hex, Quiet, Chip, Engine, Since, Wide, Write, Summary, Of, Mhz, Operand}
use Rattle.options.specs.Slots.{number_of}
use Rattle.options.proofs.slots.number_of.Goals as goal

in-order : (slot : Slot) → tag_of the_type slot ≡ number_of slot
unfolding number_of
in-order Hex = refl
in-order Quiet = refl
in-order Chip = refl
in-order Engine = refl
in-order Since = refl
in-order Wide = refl
in-order Write = refl
in-order Summary = refl
in-order Of = refl
in-order Mhz = refl
in-order Operand = refl

pub returns : goal.returns
returns c = in-order c.args.slot
