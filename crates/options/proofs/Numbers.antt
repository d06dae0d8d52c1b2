-- Each slot has a place among them. Assumes nothing.
use Rattle.std.proofs.Common.{◌<◌, arith}
use Rattle.options.specs.declared.types.Slot.{Slot}
use Rattle.options.specs.declared.types.Slot.TheVariants.{Hex, Quiet, Chip, Engine, Since, Wide, Write, Summary, Of, Mhz, Operand}
use Rattle.options.specs.Slots.{number_of, slot_count}

pub number-small : (slot : Slot) → number_of slot < slot_count
unfolding number_of
number-small Hex = omega arith
number-small Quiet = omega arith
number-small Chip = omega arith
number-small Engine = omega arith
number-small Since = omega arith
number-small Wide = omega arith
number-small Write = omega arith
number-small Summary = omega arith
number-small Of = omega arith
number-small Mhz = omega arith
number-small Operand = omega arith
