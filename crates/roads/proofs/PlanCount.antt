-- How many records a plan has: 982 for every wanted file, and up to 3 for its marks, within 01's 1,024.
-- Assumes nothing.
use Prim.Native.Nat.{ℕ, zero, suc, ◌+◌, ◌*◌, ◌≤◌}
use mathlib.Core.Path.{◌≡◌, refl}
use mathlib.Core.Bool.{Bool, true, false}
use mathlib.Core.List.{List, [], ◌∷◌}
use native.Mathlib.Omega.{arith}
use lib.ListN.{length, length-append}
use Rattle.places.specs.Lookup.{is_one_of}
use Rattle.file.specs.declared.palette.Colour.{Colour}
use Rattle.file.specs.declared.registers.File.{File}
use Rattle.file.specs.Palette.{marked_read, marked_colour}
use Rattle.roads.specs.Roads.{to_b0, each_road, but, register_roads, index_roads, closing_roads}
use Rattle.roads.specs.Plan.{open_bank, opening, pixel, pixels, entries, colours, pixel_steps, marking, indices, closing, plan_records}
use Rattle.roads.specs.RoadRecords.{write, selecting, along}
use Rattle.roads.specs.Restores.{IsFile}

pub pixels-count : (cs : List Colour) → length (pixels cs) ≡ 3 * length cs
unfolding pixels pixel
pixels-count [] = refl
pixels-count (c ∷ cs) = omega (arith, pixels-count cs)

-- 769 records for the palette, 50 for the bank
pub colour-records : (palette bank : List Colour) → length palette ≡ 256 → length bank ≡ 16 → length (colours palette bank) ≡ 819
unfolding colours entries
colour-records palette bank p b = rw (length-append, pixels-count palette, pixels-count bank, p, b)

-- one or two records for each register
pub register-records : (w : List ℕ) → length (along w register_roads) ≡ 147
unfolding along selecting register_roads
register-records w = refl

-- the stages one behind the other
pub colours-parts : (palette bank : List Colour) → length (colours palette bank) ≡ length (entries 0 palette) + (1 + length (entries 0 bank))
unfolding colours
colours-parts palette bank = omega (arith, length-append (entries 0 palette) (write to_b0 open_bank ∷ entries 0 bank))

pub plan-parts : (w : File)
    → length (plan_records w)
    ≡ 6 + length (colours w.palette w.bank) + length (marking w.state.marks) + length (along w.registers register_roads) + 5 + 5
unfolding plan_records opening indices closing closing_roads along selecting index_roads
plan-parts w = simp length-append

pub plan-count : (w : File) → IsFile w → length (plan_records w) ≡ 982 + length (marking w.state.marks)
plan-count w wf =
    omega (arith, plan-parts w, colour-records w.palette w.bank wf.palette wf.bank, register-records w.registers)

-- 02, 1/13, 'within the same 1,024 records': at most 3 for the marks
few-by : (reading : Bool) (colour : ℕ) → length (pixel_steps reading colour) ≤ 3
unfolding pixel_steps
few-by reading zero = omega arith
few-by reading (suc zero) = omega arith
few-by true (suc (suc colour)) = omega arith
few-by false (suc (suc colour)) = omega arith

pub marking-few : (m : ℕ) → length (marking m) ≤ 3
unfolding marking
marking-few m = few-by (marked_read m) (marked_colour m)

-- 'at most 1,024 records'
pub plan-room : (w : File) → IsFile w → length (plan_records w) ≤ 1024
plan-room w wf = omega (arith, plan-count w wf, marking-few w.state.marks)
