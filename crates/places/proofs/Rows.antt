-- A rule of the places, from one computed test over the whole list. Assumes nothing.
use Prim.Native.Nat.{ℕ}
use mathlib.Core.Path.{sym, subst₂}
use mathlib.Core.Bool.{Bool, true, ◌&&◌}
use mathlib.Core.List.{List, [], ◌∷◌, ◌++◌}
use mathlib.Core.Option.{Option, none, some}
use lib.Dec.{T, eqb, eqb→eq}
use Rattle.bits.proofs.Test.{left, right, both, by-test, passes}
use Rattle.file.specs.declared.chip.Chip.{Chip}
use Rattle.file.specs.declared.chip.Chip.TheVariants.{Gd5462, Gd5464}
use Rattle.file.specs.declared.registers.File.{File}
use Rattle.places.specs.declared.place.Place.{Place}
use Rattle.places.specs.declared.place.Place.TheVariants.{Unnamed}
use Rattle.places.specs.Lookup.{selects, matches, first, row_at, place_of_row, place_at}
use Rattle.places.specs.Places.{Row, shared_places, own_places, places}

-- a test passes at every row
unfoldable pub every : (Row → Bool) → List Row → Bool
every test [] = true
every test (row ∷ rows) = test row && every test rows

every-both : (test : Row → Bool) (rows more : List Row) → T (every test rows) → T (every test more) → T (every test (rows ++ more))
unfolding every
every-both test [] more t m = m
every-both test (row ∷ rows) more t m =
    both (test row) (every test (rows ++ more)) (left (test row) (every test rows) t) (every-both test rows more (right (test row) (every test rows) t) m)

-- at every row of every chip: the shared list once, and each chip's own part
unfoldable pub everywhere : (Row → Bool) → Bool
everywhere test = every test shared_places && (every test (own_places Gd5462) && every test (own_places Gd5464))

pub of-chip : (test : Row → Bool) → T (everywhere test) → (chip : Chip) → T (every test (places chip))
unfolding everywhere places
of-chip test t chip =
    every-both test shared_places (own_places chip)
    (left (every test shared_places) (every test (own_places Gd5462) && every test (own_places Gd5464)) t)
    (own chip (right (every test shared_places) (every test (own_places Gd5462) && every test (own_places Gd5464)) t))
  where
    own : (chip : Chip) → T (every test (own_places Gd5462) && every test (own_places Gd5464)) → T (every test (own_places chip))
    own Gd5462 t = left (every test (own_places Gd5462)) (every test (own_places Gd5464)) t
    own Gd5464 t = right (every test (own_places Gd5462)) (every test (own_places Gd5464)) t

-- a test of each chip's own list, computed once for each
pub on-chips : (test : Chip → Bool) → T (test Gd5462) × T (test Gd5464) → (chip : Chip) → T (test chip)
on-chips test t Gd5462 = t.0
on-chips test t Gd5464 = t.1

-- what a search found passes, unless it found nothing
abbrev pub Passes : (Row → Bool) → Option Row → Type 0
Passes test none = Unit {0}
Passes test (some row) = T (test row)

-- the row that a search finds passes what every row passes, and the search's own test
pub found : (P test : Row → Bool) (rows : List Row) → T (every P rows) → Passes (λ (row : Row). P row && test row) (first test rows)
unfolding every first
found P test [] t = tt
found P test (row ∷ rows) t =
    by-test (test row)
    (λ e. rw e (both (P row) (test row) (left (P row) (every P rows) t) (passes (test row) e)))
    (λ e. rw e (found P test rows (right (P row) (every P rows) t)))

module _ (f : File) (kind address : ℕ) where
  -- so does the row that an access finds in a file
  pub row-passes : (P : Row → Bool) → T (everywhere P) → Passes (λ (row : Row). P row && matches f kind address row) (row_at f kind address)
  unfolding row_at
  row-passes P t = found P (matches f kind address) (places f.state.chip) (of-chip P t f.state.chip)

  -- a rule of kind, address and place
  abbrev Rule : Type 0
  Rule = ℕ → ℕ → Place → Bool

  abbrev at : Rule → Row → Bool
  at P row = P row.kind row.address row.place

  -- one that every row passes, and an access that finds none, holds of each access's place
  in_place : (P : Rule) (o : Option Row) → T (P kind address Unnamed)
      → Passes (λ (row : Row). at P row && matches f kind address row) o → T (P kind address (place_of_row o))
  unfolding place_of_row matches
  in_place P none n p = n
  in_place P (some row) n p =
      let same : T (eqb kind row.kind && eqb address row.address) =
      left (eqb kind row.kind && eqb address row.address) (selects f row.index) (right (at P row) (matches f kind address row) p) in
      subst₂ (λ (k a : ℕ). T (P k a row.place))
      (sym (eqb→eq kind row.kind (left (eqb kind row.kind) (eqb address row.address) same)))
      (sym (eqb→eq address row.address (right (eqb kind row.kind) (eqb address row.address) same)))
      (left (at P row) (matches f kind address row) p)

  pub place-passes : (P : Rule) → T (everywhere (λ (row : Row). P row.kind row.address row.place))
      → T (P kind address Unnamed) → T (P kind address (place_at f kind address))
  unfolding place_at
  place-passes P t n = in_place P (row_at f kind address) n (row-passes (at P) t)
