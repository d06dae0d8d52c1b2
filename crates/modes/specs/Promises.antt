-- 02, 4/13: what the reader of a line tells.
-- Assumes nothing.
use Rattle.std.specs.Prelude.{ℕ, List}
use Rattle.std.specs.declared.result.Result.{Result}
use Rattle.std.specs.declared.result.Result.TheVariants.{Ok, Err}
use Rattle.modes.specs.declared.mode.Mode.{Mode}
use Rattle.modes.specs.Form.{Good}
use Rattle.modes.specs.Place.{BadAt, Says}

-- of a good line its mode, of any other its bad place
abbrev pub Told : List ℕ → Result Mode ℕ → Type 0
Told line (Ok mode) = Says Good line mode
Told line (Err position) = BadAt Good line position
