-- The list of pairs, held to the list of places: every register with two roads is there, and both roads of a pair lead to one place.
-- Assumes nothing.
use Prim.Native.Nat.{◌/◌, ◌%◌}
use mathlib.Core.Path.{◌≡◌, refl, sym, ap, ◌∙◌, subst}
use mathlib.Core.Bool.{Bool, true, false, not, ◌&&◌, ◌||◌}
use mathlib.Core.List.{List, [], ◌∷◌, Memᴰ}
use mathlib.Core.Option.{Option, none, some}
use lib.Dec.{T, eqb, ltb, eqb→eq}
use lib.ListN.{length}
use Rattle.bits.specs.Store.{bits, bit}
use Rattle.bits.proofs.Test.{left, right}
use Rattle.file.specs.declared.chip.Chip.{Chip}
use Rattle.file.specs.declared.chip.Chip.TheVariants.{Gd5462, Gd5464}
use Rattle.file.specs.declared.registers.File.{File}
use Rattle.file.specs.File.{register}
use Rattle.file.specs.Names.{MISC, SRX, CRX, GRX, ARX}
use Rattle.places.specs.Lookup.{attribute_index, selects, matches, first, row_at, is_one_of}
use Rattle.places.specs.Places.{Index, any, sr, cr, gr, ar, index_due, data_due, Row, places}
use Rattle.places.proofs.Rows.{every, on-chips}
use Rattle.places.proofs.SamePlace.{same_places}
use Rattle.access.specs.Checks.{is_port, of_other_half}
use Rattle.roads.proofs.LookupBySelectors.{Selectors, selectors_of, bare_file, row_by, half-by}
use Rattle.two_roads.specs.Pairs.{Road, Pair, Half, monochrome, colour, opposite, crtc_data, pairs}
use Rattle.two_roads.specs.Agree.{kind_of, address_of, record_by, half_bit, half_fits, Ready}

-- a test passes at every pair, and at some pair
unfoldable pub every_pair : (Pair → Bool) → List Pair → Bool
every_pair test [] = true
every_pair test (p ∷ ps) = test p && every_pair test ps

unfoldable pub some_pair : (Pair → Bool) → List Pair → Bool
some_pair test [] = false
some_pair test (p ∷ ps) = test p || some_pair test ps

pub at_pair : (test : Pair → Bool) (ps : List Pair) (p : Pair) → T (every_pair test ps) → Memᴰ p ps → T (test p)
unfolding every_pair
at_pair test [] p t x = elim x [ ]
at_pair test (q ∷ ps) p t (Memᴰ.head e) = subst (λ (x : Pair). T (test x)) (sym e) (left (test q) (every_pair test ps) t)
at_pair test (q ∷ ps) p t (Memᴰ.tail m) = at_pair test ps p (right (test q) (every_pair test ps) t) m

-- ---- every register with two roads is there

-- two rows name one place, in the same direction, by two spaces
unfoldable pub two_roads : Row → Row → Bool
two_roads a b = ltb (a.kind / 2) (b.kind / 2) && eqb (a.kind % 2) (b.kind % 2) && same_places a.place b.place

-- a road goes by a row's kind and address; that its index is the row's follows for a pair, whose roads lead to one place (`pairs-meet`)
unfoldable pub goes_by : Row → Road → Bool
goes_by row road =
    let write : Bool = eqb (row.kind % 2) 1 in eqb (kind_of road.space write) row.kind && eqb (address_of road write) row.address

-- some pair goes by both rows
unfoldable pub paired : Row → Row → Half → Bool
paired a b half = some_pair (λ (p : Pair). goes_by a p.from && goes_by b p.to) (pairs half)

-- in a half's list, but for a row by the other half's 3?5h
unfoldable pub listed_in : Row → Row → Half → Bool
listed_in a b half = eqb a.address (crtc_data (opposite half)) || paired a b half

unfoldable pub all_paired : List Row → Bool
all_paired rows =
    every (λ (a : Row). every (λ (b : Row). not (two_roads a b) || (listed_in a b monochrome && listed_in a b colour)) rows) rows

-- computed for each chip once
both-paired : T (all_paired (places Gd5462)) × T (all_paired (places Gd5464))
unfolding all_paired every two_roads opposite listed_in paired some_pair goes_by kind_of address_of same_places pairs places
both-paired = (tt, tt)

pub all-paired : (chip : Chip) → T (all_paired (places chip))
all-paired = on-chips (λ (chip : Chip). all_paired (places chip)) both-paired

-- 30 CRs, MISC, SR0E, SR1E, the pixel mask, three palette places, PCI00, PCI02 and PCI04
pub pairs-counted : (half : Half) → length (pairs half) ≡ 40
unfolding pairs
pairs-counted half = refl

-- ---- both roads of a pair lead to one place

-- both rows are there, of one width and one place
unfoldable pub same_row : Option Row → Option Row → Bool
same_row none o = false
same_row (some a) none = false
same_row (some a) (some b) = eqb a.width b.width && same_places a.place b.place

-- in a file both roads find the same, and MISC[0] refuses neither
unfoldable pub meets : File → Bool → Pair → Bool
meets f write p =
    same_row (row_at f (kind_of p.from.space write) (address_of p.from write)) (row_at f (kind_of p.to.space write) (address_of p.to write))
    && (not (of_other_half f (record_by p.from write 0 0)) && not (of_other_half f (record_by p.to write 0 0)))

-- what a file shows with an SRX or CRX index selected; no pair has another
unfoldable pub showing : Index → Selectors → Selectors
showing any v = v
showing (sr n) v = record { misc = v.misc; srx = n; crx = v.crx; grx = v.grx; arx = v.arx; toggle = v.toggle; chip = v.chip }
showing (cr n) v = record { misc = v.misc; srx = v.srx; crx = n; grx = v.grx; arx = v.arx; toggle = v.toggle; chip = v.chip }
showing (gr n) v = v
showing (ar n) v = v
showing index_due v = v
showing (data_due n) v = v

shown : (f : File) (i : Index) → T (selects f i) → selectors_of f ≡ showing i (selectors_of f)
unfolding showing selectors_of selects
shown f any t = refl
shown f (sr n) t =
    λ k.
    record { misc = register f MISC; srx = eqb→eq (register f SRX) n t k; crx = register f CRX; grx = register f GRX; arx = register f ARX; toggle = f.state.toggle; chip = f.state.chip }
shown f (cr n) t =
    λ k.
    record { misc = register f MISC; srx = register f SRX; crx = eqb→eq (register f CRX) n t k; grx = register f GRX; arx = register f ARX; toggle = f.state.toggle; chip = f.state.chip }
shown f (gr n) t = refl
shown f (ar n) t = refl
shown f index_due t = refl
shown f (data_due n) t = refl

-- each pair's roads meet, whatever else a file shows
pub pairs-meet : (v : Selectors) (half : Half) (write : Bool) → bit 0 v.misc ≡ half_bit half
    → T (every_pair (λ (p : Pair). meets (bare_file (showing p.from.index v)) write p) (pairs half))
unfolding every_pair meets same_row same_places showing half_bit kind_of address_of of_other_half is_port is_one_of row_at first matches selects attribute_index bits register bare_file places pairs
pairs-meet v monochrome true e = rw e tt
pairs-meet v monochrome false e = rw e tt
pairs-meet v colour true e = rw e tt
pairs-meet v colour false e = rw e tt

-- what a file shows decides
meets-by : (f : File) (write : Bool) (p : Pair) → meets (bare_file (selectors_of f)) write p ≡ meets f write p
unfolding meets
meets-by f write p =
    rw (row_by f (kind_of p.from.space write) (address_of p.from write), row_by f (kind_of p.to.space write) (address_of p.to write), half-by f (record_by p.from write 0 0), half-by f (record_by p.to write 0 0))

misc-fits : (f : File) (half : Half) → T (half_fits f half) → bit 0 (register f MISC) ≡ half_bit half
unfolding half_fits
misc-fits f half t = eqb→eq (bit 0 (register f MISC)) (half_bit half) t

-- so do those of a pair of the list in every file that is ready
pub ready-meets : (half : Half) (p : Pair) → Memᴰ p (pairs half) → (f : File) → Ready f half p → (write : Bool) → T (meets f write p)
unfolding selectors_of
ready-meets half p m f ready write =
    subst (λ (b : Bool). T b)
    (ap (λ (v : Selectors). meets (bare_file v) write p) (sym (shown f p.from.index ready.selected)) ∙ meets-by f write p)
    (at_pair (λ (q : Pair). meets (bare_file (showing q.from.index (selectors_of f))) write q) (pairs half) p
    (pairs-meet (selectors_of f) half write (misc-fits f half ready.fitting)) m)
