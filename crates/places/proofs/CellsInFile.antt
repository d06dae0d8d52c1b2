-- Whatever table is lent, a cell names registers of the file only. Assumes nothing.
use Prim.Native.Nat.{ℕ, zero, suc, ◌-◌, ◌%◌}
use mathlib.Core.Bool.{Bool, true, false, ◌&&◌}
use mathlib.Core.List.{List, [], ◌∷◌}
use lib.Dec.{T, ltb}
use lib.ListN.{get_or}
use Rattle.bits.proofs.Test.{left, right, both, by-test, passes}
use Rattle.file.specs.declared.registers.File.{File}
use Rattle.file.specs.Registers.{register_count}
use Rattle.places.specs.declared.place.Place.{Place}
use Rattle.places.specs.declared.place.Place.TheVariants.{Unnamed}
use Rattle.places.specs.EngineCells.{first_alone, first_indexed, wider, alone, plain_place, attribute_place, indexed_places, cell_place, in_file}

unfoldable pub every_place : List Place → Bool
unfolding in_file
every_place [] = true
every_place (p ∷ ps) = in_file p && every_place ps

in_list : (ps : List Place) (i : ℕ) → T (every_place ps) → T (in_file (get_or ps i Unnamed))
unfolding every_place
in_list [] i t = tt
in_list (p ∷ ps) zero t = left (in_file p) (every_place ps) t
in_list (p ∷ ps) (suc i) t = in_list ps i (right (in_file p) (every_place ps) t)

pub plain-in-file : (cell : ℕ) → T (in_file (plain_place cell))
unfolding plain_place every_place
plain-in-file cell =
    by-test (ltb cell register_count)
    (λ e. rw e (both (ltb cell register_count) (ltb cell register_count) (passes (ltb cell register_count) e) (passes (ltb cell register_count) e)))
    (λ e. rw e (in_list alone (cell - first_alone) tt))

attribute-in-file : (toggle : Bool) (cell : ℕ) → T (in_file (attribute_place toggle cell))
unfolding attribute_place in_file
attribute-in-file false cell = tt
attribute-in-file true cell =
    by-test (ltb cell register_count)
    (λ e. rw e (both (ltb cell register_count) (ltb cell register_count) (passes (ltb cell register_count) e) (passes (ltb cell register_count) e)))
    (λ e. rw e tt)

pub cell-in-file : (cells : List ℕ) (f : File) (cell : ℕ) → T (in_file (cell_place cells f cell))
unfolding every_place indexed_places cell_place
cell-in-file cells f cell =
    by-test (ltb (cell % wider) first_indexed)
    (λ e. rw e (plain-in-file (cell % wider)))
    (λ e. rw e (in_list (indexed_places cells f) (cell % wider - first_indexed) indexed))
  where
    indexed : T (every_place (indexed_places cells f))
    indexed = search (plain-in-file, attribute-in-file, both) depth 9
