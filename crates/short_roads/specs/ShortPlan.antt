-- 02, 11/13: 'A short plan, given that saved file and set, may leave out what the set doesn't name': its records, which go by the two alone.
-- Assumes nothing.
use Rattle.std.specs.Prelude.{ℕ, suc, Bool, true, false, cond, List, [], ◌∷◌, ◌++◌, eqb, get_or, set}
use Rattle.file.specs.declared.palette.Colour.{Colour}
use Rattle.file.specs.declared.registers.File.{File}
use Rattle.access.specs.declared.record.Record.{Record}
use Rattle.roads.specs.Roads.{Road, to_b0, register_roads}
use Rattle.roads.specs.RoadRecords.{write, along}
use Rattle.roads.specs.Plan.{open_bank, opening, marking, indices, closing}
use Rattle.roads.specs.ColourStage.{Stretch, stretch_records}
use Rattle.touched.specs.declared.set.Touched.{Touched}
use Rattle.touched.specs.Things.{is_empty}

-- an entry before some stretches: it joins the first one if that begins right behind it
unfoldable pub before : ℕ → Colour → List Stretch → List Stretch
before n c [] = record { first = n; colours = c ∷ [] } ∷ []
before n c (next ∷ stretches) =
    cond (eqb next.first (suc n)) (record { first = n; colours = c ∷ next.colours } ∷ stretches)
    (record { first = n; colours = c ∷ [] } ∷ next ∷ stretches)

-- the entries that are named, from one on, as stretches: as few as there can be, so each takes one address
unfoldable pub stretches_from : ℕ → List Bool → List Colour → List Stretch
stretches_from n [] colours = []
stretches_from n (named ∷ more) [] = []
stretches_from n (true ∷ more) (c ∷ colours) = before n c (stretches_from (suc n) more colours)
stretches_from n (false ∷ more) (c ∷ colours) = stretches_from (suc n) more colours

-- the bank's last entry is always among them: behind it the pointer and the marks are where all of the bank's would leave them, and what follows is
-- the full plan's
unfoldable pub last_entry : ℕ
last_entry = 15

unfoldable pub bank_named : Touched → List Bool
bank_named s = set s.bank last_entry true

-- the entries of the palette that the set names, and with B0[3]=1 those of the bank
unfoldable pub short_colours : Touched → List Colour → List Colour → List Record
short_colours s palette bank =
    stretch_records (stretches_from 0 s.palette palette) ++ write to_b0 open_bank ∷ stretch_records (stretches_from 0 (bank_named s) bank)

-- the roads to the registers that are named
unfoldable pub named_roads : List Bool → List Road → List Road
named_roads named [] = []
named_roads named (road ∷ roads) = cond (get_or named road.register false) (road ∷ []) [] ++ named_roads named roads

-- the full plan's stages, those of colours and registers over what the set names
unfoldable pub stage_records : File → Touched → List Record
stage_records w s =
    opening w.registers
    ++ short_colours s w.palette w.bank
    ++ marking w.state.marks
    ++ along w.registers (named_roads s.registers register_roads)
    ++ indices w.registers w.state.toggle
    ++ closing w.registers w.state.pointer

-- 'a short plan for an empty set' has no record
unfoldable pub short_records : File → Touched → List Record
short_records w s = cond (is_empty s) [] (stage_records w s)
