-- How many records a short plan has: never more than the full plan, none for an empty set, else at most 24 and 4 for each thing that the set names.
-- Assumes nothing.
use Prim.Native.Nat.{ℕ, zero, suc, ◌+◌, ◌*◌, ◌≤◌}
use mathlib.Core.Path.{◌≡◌}
use mathlib.Core.Bool.{Bool, true, false}
use mathlib.Core.List.{List, [], ◌∷◌}
use native.Mathlib.Omega.{arith}
use lib.ListN.{set, length, length-append}
use Rattle.bits.proofs.Test.{by-test}
use Rattle.file.specs.declared.palette.Colour.{Colour}
use Rattle.file.specs.declared.registers.File.{File}
use Rattle.roads.specs.Roads.{to_b0, register_roads, index_roads, closing_roads}
use Rattle.roads.specs.RoadRecords.{write, selecting, along}
use Rattle.roads.specs.Plan.{open_bank, opening, marking, indices, closing, plan_records}
use Rattle.roads.specs.ColourStage.{stretch_records}
use Rattle.roads.proofs.PlanCount.{colours-parts, plan-parts, marking-few}
use Rattle.touched.specs.declared.set.Touched.{Touched}
use Rattle.touched.specs.Things.{one, many, size, is_empty}
use Rattle.short_roads.specs.ShortPlan.{stretches_from, last_entry, bank_named, short_colours, named_roads, stage_records, short_records}
use Rattle.short_roads.proofs.StretchesNamed.{cost, named-cost, stretches-cost}
use Rattle.short_roads.proofs.NamedRoads.{named_count, named-along}

-- one mark more
one_more : (marks : List Bool) (n : ℕ) → many (set marks n true) ≤ 1 + many marks
unfolding many one
one_more [] n = omega arith
one_more (b ∷ marks) zero = omega arith
one_more (b ∷ marks) (suc n) = omega (arith, one_more marks n)

colours-count : (s : Touched) (palette bank : List Colour)
    → length (short_colours s palette bank) ≡ cost (stretches_from 0 s.palette palette) + (1 + cost (stretches_from 0 (bank_named s) bank))
unfolding short_colours
colours-count s palette bank =
    omega (arith, length-append (stretch_records (stretches_from 0 s.palette palette)) (write to_b0 open_bank ∷ stretch_records (stretches_from 0 (bank_named s) bank)))

bank-few : (s : Touched) (bank : List Colour) → cost (stretches_from 0 (bank_named s) bank) ≤ 4 * (1 + many s.bank)
unfolding bank_named
bank-few s bank = omega (arith, named-cost (set s.bank last_entry true) 0 bank, one_more s.bank last_entry)

module _ (w : File) (s : Touched) where
  -- the stages one behind the other
  parts : is_empty s ≡ false
      → length (short_records w s)
      ≡ 6 + length (short_colours s w.palette w.bank) + length (marking w.state.marks) + length (along w.registers (named_roads s.registers register_roads)) + 5 + 5
  unfolding short_records stage_records opening indices closing closing_roads along selecting index_roads
  parts e = rw e (simp length-append)

  none : is_empty s ≡ true → length (short_records w s) ≡ 0
  unfolding short_records
  none e = rw e

  pub short-of-empty : is_empty s ≡ true → length (short_records w s) ≤ 16
  short-of-empty e = omega (arith, none e)

  pub short-of-other : is_empty s ≡ false → length (short_records w s) ≤ 32 + 4 * size s
  unfolding size
  short-of-other e =
      omega (
        arith,
        parts e,
        colours-count s w.palette w.bank,
        named-cost s.palette 0 w.palette,
        bank-few s w.bank,
        marking-few w.state.marks,
        named_count w.registers s.registers,
      )

  pub short-no-longer : length (short_records w s) ≤ length (plan_records w)
  short-no-longer =
      by-test (is_empty s) (λ e. omega (arith, none e))
      (λ e. omega (
        arith,
        parts e,
        colours-count s w.palette w.bank,
        stretches-cost s.palette w.palette,
        stretches-cost (bank_named s) w.bank,
        named-along w.registers s.registers register_roads,
        plan-parts w,
        colours-parts w.palette w.bank,
      ))
