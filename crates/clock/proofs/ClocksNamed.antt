-- The registers of the four clocks stand in 01's table under their names: a computed test. Assumes nothing.
use Prim.Native.Nat.{◌+◌}
use mathlib.Core.List.{List, [], ◌∷◌}
use lib.Dec.{T}
use Rattle.file.specs.Named.{Named, all_named, name_of}
use Rattle.file.specs.Registers.{registers}
use Rattle.clock.specs.Clock.{SR0B, SR1B}

unfoldable pub clock_names : List Named
clock_names =
    record { name = "SR0B"; number = SR0B + 0 }
    ∷ record { name = "SR0C"; number = SR0B + 1 }
    ∷ record { name = "SR0D"; number = SR0B + 2 }
    ∷ record { name = "SR0E"; number = SR0B + 3 }
    ∷ record { name = "SR1B"; number = SR1B + 0 }
    ∷ record { name = "SR1C"; number = SR1B + 1 }
    ∷ record { name = "SR1D"; number = SR1B + 2 }
    ∷ record { name = "SR1E"; number = SR1B + 3 }
    ∷ []

pub clocks-named : T (all_named clock_names)
unfolding clock_names all_named name_of registers
clocks-named = tt
