-- 02, 10/13, as settled: no record of a short plan lets lines pass either. Assumes nothing.
use Prim.Native.Nat.{ℕ}
use mathlib.Core.Bool.{Bool, ◌&&◌}
use mathlib.Core.List.{List, [], ◌∷◌}
use lib.Dec.{T}
use lib.ListN.{get_or}
use Rattle.bits.proofs.Test.{left, right, both, by-test}
use Rattle.file.specs.declared.palette.Colour.{Colour}
use Rattle.file.specs.declared.registers.File.{File}
use Rattle.file.specs.Palette.{marked_read, marked_colour}
use Rattle.access.specs.Checks.{ordinary}
use Rattle.roads.specs.Roads.{Road, to_b0, register_roads}
use Rattle.roads.specs.RoadRecords.{write, selecting, along}
use Rattle.roads.specs.Plan.{open_bank, opening, pixels, entries, marking, indices, closing}
use Rattle.roads.specs.Restores.{all_ordinary}
use Rattle.roads.specs.RegisterStage.{every_road}
use Rattle.roads.specs.ColourStage.{Stretch, stretch_records}
use Rattle.roads.proofs.KindsOfRecords.{ordinary-then, opening-ordinary, pixels-ordinary, steps-ordinary, indices-ordinary, closing-ordinary}
use Rattle.touched.specs.declared.set.Touched.{Touched}
use Rattle.touched.specs.Things.{is_empty}
use Rattle.short_roads.specs.ShortPlan.{stretches_from, bank_named, short_colours, named_roads, stage_records, short_records}
use Rattle.short_roads.proofs.NamedRoads.{named-every}

-- ---- colours

stretches-ordinary : (stretches : List Stretch) → T (all_ordinary (stretch_records stretches))
unfolding all_ordinary ordinary stretch_records entries
stretches-ordinary [] = tt
stretches-ordinary (stretch ∷ stretches) =
    ordinary-then (pixels stretch.colours) (stretch_records stretches) (pixels-ordinary stretch.colours) (stretches-ordinary stretches)

short-colours-ordinary : (s : Touched) (palette bank : List Colour) → T (all_ordinary (short_colours s palette bank))
unfolding all_ordinary ordinary short_colours
short-colours-ordinary s palette bank =
    ordinary-then (stretch_records (stretches_from 0 s.palette palette)) (write to_b0 open_bank ∷ stretch_records (stretches_from 0 (bank_named s) bank))
    (stretches-ordinary (stretches_from 0 s.palette palette)) (stretches-ordinary (stretches_from 0 (bank_named s) bank))

-- ---- roads

-- what a road's register is written by is ordinary, whatever the value is
unfoldable by_access : Road → Bool
by_access road = all_ordinary (selecting road.index) && ordinary (write road 0)

registers-by-access : T (every_road by_access register_roads)
unfolding every_road by_access all_ordinary ordinary selecting register_roads
registers-by-access = tt

along-ordinary : (w : List ℕ) (roads : List Road) → T (every_road by_access roads) → T (all_ordinary (along w roads))
unfolding every_road by_access all_ordinary ordinary along
along-ordinary w [] t = tt
along-ordinary w (road ∷ roads) t =
    let first = left (by_access road) (every_road by_access roads) t in
    let rest = along-ordinary w roads (right (by_access road) (every_road by_access roads) t) in
    ordinary-then (selecting road.index) (write road (get_or w road.register 0) ∷ along w roads)
    (left (all_ordinary (selecting road.index)) (ordinary (write road 0)) first)
    (both (ordinary (write road 0)) (all_ordinary (along w roads)) (right (all_ordinary (selecting road.index)) (ordinary (write road 0)) first) rest)

-- ---- all of them

module _ (w : File) (s : Touched) where
  stages-ordinary : T (all_ordinary (stage_records w s))
  unfolding stage_records marking
  stages-ordinary =
      ordinary-then _ (closing w.registers w.state.pointer)
      (ordinary-then _ (indices w.registers w.state.toggle)
      (ordinary-then _ (along w.registers (named_roads s.registers register_roads))
      (ordinary-then _ (marking w.state.marks)
      (ordinary-then (opening w.registers) (short_colours s w.palette w.bank) (opening-ordinary w.registers) (short-colours-ordinary s w.palette w.bank))
      (steps-ordinary (marked_read w.state.marks) (marked_colour w.state.marks)))
      (along-ordinary w.registers (named_roads s.registers register_roads) (named-every by_access s.registers register_roads registers-by-access)))
      (indices-ordinary w.registers w.state.toggle))
      (closing-ordinary w.registers w.state.pointer)

  pub short-ordinary : T (all_ordinary (short_records w s))
  unfolding short_records all_ordinary
  short-ordinary = by-test (is_empty s) (λ e. rw e tt) (λ e. rw e stages-ordinary)
