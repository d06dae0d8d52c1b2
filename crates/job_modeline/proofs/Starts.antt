-- A job that is started wide has CR1B[5]=1, and one that isn't has 0. Assumes nothing.
use mathlib.Core.Bool.{Bool, true, false, cond}
use mathlib.Core.Path.{◌≡◌, refl}
use Rattle.bits.specs.Store.{bit, store}
use Rattle.file.specs.Effects.{apply}
use Rattle.file.specs.File.{power_on, register}
use Rattle.file.specs.Names.{CR1B}
use Rattle.mode_lines.specs.Start.{start_file}
use Rattle.mode_lines.specs.Job.{started}

pub starts-wide : (wide : Bool) → bit 5 (register (started wide).file CR1B) ≡ cond wide 1 0
unfolding started start_file apply power_on register store bit
starts-wide true = refl
starts-wide false = refl
