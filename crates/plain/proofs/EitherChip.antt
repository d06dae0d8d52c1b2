-- What holds of each chip. Assumes nothing.
use Rattle.file.specs.declared.chip.Chip.{Chip}
use Rattle.file.specs.declared.chip.Chip.TheVariants.{Gd5462, Gd5464}

pub by-chip : (P : Chip → Type 0) → P Gd5462 → P Gd5464 → (chip : Chip) → P chip
by-chip P a b Gd5462 = a
by-chip P a b Gd5464 = b
