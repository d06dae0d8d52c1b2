-- What it tells of a value that it is a Rattle `Summary`: how many registers and codes there are. Assumes nothing.
use mathlib.Core.Path.{◌≡◌}
use mathlib.Core.List.{List}
use lib.ListN.{length}
use mir.Val.{Val}
use denote.Laws.{Is}
use denote.Struct.Declared.{row}
use Rattle.file.specs.Registers.{register_count}
use Rattle.summing.specs.declared.summary.Summary.{Summary}
use Rattle.summing.specs.Summed.{code_count}
use Rattle.summing.specs.contracts.summary.Summary.{the_type}

module _ (s : Summary) (vs : List Val) (g : Is (row the_type) s vs) where
  pub writes-count : length s.writes ≡ register_count
  writes-count = g.1.1.0.1.0.1

  pub reaches-count : length s.reaches ≡ register_count
  reaches-count = g.1.1.1.0.1.0.1

  pub moved-count : length s.moved ≡ register_count
  moved-count = g.1.1.1.1.0.1.0.1

  pub codes-count : length s.codes ≡ code_count
  codes-count = g.1.1.1.1.1.0.1.0.1
