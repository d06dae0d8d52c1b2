-- A Rattle `Touched` has a mark for each thing that a file has. Assumes nothing.
use mathlib.Core.List.{List}
use mir.Val.{Val}
use denote.Laws.{Is}
use denote.Struct.Declared.{row}
use Rattle.touched.specs.declared.set.Touched.{Touched}
use Rattle.touched.specs.Things.{IsSet}
use Rattle.touched.specs.contracts.set.Touched.{the_type}

-- `Is` is what a proof has of a parameter, as `c.well_formed.0`
pub is-set : (s : Touched) (vs : List Val) → Is (row the_type) s vs → IsSet s
is-set s vs g =
    record {
      registers = g.1.1.0.1.0.1;
      palette = g.1.1.1.0.1.0.1;
      bank = g.1.1.1.1.0.1.0.1;
    }
