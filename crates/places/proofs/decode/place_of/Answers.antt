-- `place_of` meets its contract. Assumes nothing.
use Prim.Native.Nat.{ℕ, ◌+◌, ◌-◌, ◌%◌}
use mathlib.Core.Path.{◌≡◌, sym, ap, ◌∙◌}
use native.Mathlib.Omega.{arith}
use Rattle.bits.specs.Store.{bits}
use lib.ListN.{get_or, get_or-eq_default}
use Rattle.places.specs.declared.place.Place.TheVariants.{Unnamed}
use borrow.Author.Tests.{le-ltb, lt-ltb}
use Rattle.places.specs.EngineCells.{first_indexed, wider, behind_srx, behind_crx, behind_grx, behind_arx, plain_place, attribute_place, indexed_places, cell_place}
use Rattle.file.specs.File.{seen}
use Rattle.places.proofs.decode.place_of.Goals as goal

-- 'ARX[4:0]'
five-bits : (n : ℕ) → n % 32 ≡ bits 4 0 n
unfolding bits
five-bits n = omega arith

pub returns-then-kind-lt-FIRST_INDEXED : goal.returns-then-kind-lt-FIRST_INDEXED
unfolding cell_place
returns-then-kind-lt-FIRST_INDEXED c = rw (lt-ltb _ _ c.if-kind-lt-FIRST_INDEXED.true) c.plain.ensures

pub returns-in-120 : goal.returns-in-120
unfolding cell_place seen
returns-in-120 c = rw c.in-120.is (c.plain-in-120.ensures ∙ ap (λ (n : ℕ). plain_place (get_or c.args.cells.now (behind_srx + n) 0)) c.from.ensures)

pub returns-in-121 : goal.returns-in-121
unfolding cell_place seen
returns-in-121 c = rw c.in-121.is (c.plain-in-121.ensures ∙ ap (λ (n : ℕ). plain_place (get_or c.args.cells.now (behind_crx + n) 0)) c.from-in-121.ensures)

pub returns-in-122 : goal.returns-in-122
unfolding cell_place seen
returns-in-122 c = rw c.in-122.is (c.plain-in-122.ensures ∙ ap (λ (n : ℕ). plain_place (get_or c.args.cells.now (behind_grx + n) 0)) c.from-in-122.ensures)

pub returns-in-123 : goal.returns-in-123
unfolding cell_place seen
returns-in-123 c = rw c.in-123.is (c.plain-in-123.ensures ∙ ap (λ (n : ℕ). plain_place (get_or c.args.cells.now (behind_arx + n) 0)) (c.from-in-123.ensures ∙ five-bits _))

pub returns-in-124 : goal.returns-in-124
unfolding cell_place seen
returns-in-124 c = rw c.in-124.is (c.attribute.ensures ∙ ap (λ (n : ℕ). attribute_place c.args.state.toggle (get_or c.args.cells.now (behind_arx + n) 0)) (c.from-in-124.ensures ∙ five-bits _))

pub returns-in_default : goal.returns-in_default
unfolding cell_place
returns-in_default c = rw (le-ltb _ _ c.if-kind-lt-FIRST_INDEXED.false) (sym (get_or-eq_default (indexed_places c.args.cells.now (seen c.args.registers.now c.args.state)) Unnamed {n = c.args.cell % wider - first_indexed} (omega (arith, c.if-kind-lt-FIRST_INDEXED.false))))
