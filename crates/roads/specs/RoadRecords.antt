-- 01, 'Places': the records by which a plan writes registers.
-- Assumes nothing.
use Rattle.std.specs.Prelude.{ℕ, List, [], ◌∷◌, ◌++◌, get_or}
use Rattle.access.specs.declared.record.Record.{Record}
use Rattle.places.specs.Places.{Index, any, sr, cr, gr, ar, index_due, data_due}
use Rattle.roads.specs.Roads.{Road, to_srx, to_grx, to_arx}

-- the record that writes a value by a road
abbrev pub write : Road → ℕ → Record
write road value = record { kind = road.kind; width = road.width; address = road.address; value = value }

-- what selects an index, the toggle being index: '3C4h/3C5h', '3CEh/3CFh', '3C0h .. index or data by the toggle'
unfoldable pub selecting : Index → List Record
selecting any = []
selecting (sr n) = write to_srx n ∷ []
selecting (cr n) = []
selecting (gr n) = write to_grx n ∷ []
selecting (ar n) = []
selecting index_due = []
selecting (data_due n) = write to_arx n ∷ []

-- the wanted values of some registers, each by its road with its index selected
unfoldable pub along : List ℕ → List Road → List Record
along wanted [] = []
along wanted (road ∷ roads) = selecting road.index ++ write road (get_or wanted road.register 0) ∷ along wanted roads
