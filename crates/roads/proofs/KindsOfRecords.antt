-- 02, 10/13, as settled: no record of a plan lets lines pass, and a run of such records leaves the line. Assumes nothing.
use Prim.Native.Nat.{ℕ, zero, suc}
use mathlib.Core.Path.{◌≡◌, refl, ◌∙◌}
use mathlib.Core.Bool.{Bool, true, false}
use mathlib.Core.List.{List, [], ◌∷◌, ◌++◌, map}
use lib.Dec.{T}
use Rattle.bits.proofs.Test.{left, right, both}
use Rattle.file.specs.declared.palette.Colour.{Colour}
use Rattle.file.specs.declared.palette.Pointer.{Pointer}
use Rattle.file.specs.declared.registers.File.{File}
use Rattle.file.specs.Palette.{marked_read, marked_colour}
use Rattle.access.specs.declared.record.Item.TheVariants.{Whole}
use Rattle.access.specs.declared.record.Record.{Record}
use Rattle.access.specs.Access.{access, access_item}
use Rattle.access.specs.Checks.{ordinary}
use Rattle.access.proofs.Lines.{ordinary-line}
use Rattle.trace.specs.Run.{file_after}
use Rattle.roads.specs.Roads.{to_b0, register_roads, index_roads, closing_roads}
use Rattle.roads.specs.Plan.{open_bank, opening, pixel, pixels, entries, colours, pixel_steps, marking, indices, closing, plan_records}
use Rattle.roads.specs.RoadRecords.{write, selecting, along}
use Rattle.roads.specs.Restores.{all_ordinary}

-- lists one behind the other
pub ordinary-then : (rs ss : List Record) → T (all_ordinary rs) → T (all_ordinary ss) → T (all_ordinary (rs ++ ss))
unfolding all_ordinary
ordinary-then [] ss r s = s
ordinary-then (a ∷ rs) ss r s =
    both (ordinary a) (all_ordinary (rs ++ ss)) (left (ordinary a) (all_ordinary rs) r) (ordinary-then rs ss (right (ordinary a) (all_ordinary rs) r) s)

-- ---- stage by stage

pub opening-ordinary : (w : List ℕ) → T (all_ordinary (opening w))
unfolding all_ordinary ordinary opening
opening-ordinary w = tt

pub pixels-ordinary : (cs : List Colour) → T (all_ordinary (pixels cs))
unfolding all_ordinary ordinary pixels pixel
pixels-ordinary [] = tt
pixels-ordinary (c ∷ cs) = pixels-ordinary cs

colours-ordinary : (palette bank : List Colour) → T (all_ordinary (colours palette bank))
unfolding all_ordinary ordinary colours entries
colours-ordinary palette bank =
    ordinary-then (pixels palette) (write to_b0 open_bank ∷ entries 0 bank) (pixels-ordinary palette) (pixels-ordinary bank)

pub steps-ordinary : (reading : Bool) (colour : ℕ) → T (all_ordinary (pixel_steps reading colour))
unfolding all_ordinary ordinary pixel_steps
steps-ordinary true zero = tt
steps-ordinary false zero = tt
steps-ordinary true (suc zero) = tt
steps-ordinary false (suc zero) = tt
steps-ordinary true (suc (suc colour)) = tt
steps-ordinary false (suc (suc colour)) = tt

registers-ordinary : (w : List ℕ) → T (all_ordinary (along w register_roads))
unfolding all_ordinary ordinary along selecting register_roads
registers-ordinary w = tt

pub indices-ordinary : (w : List ℕ) (toggle : Bool) → T (all_ordinary (indices w toggle))
unfolding all_ordinary ordinary indices along selecting index_roads
indices-ordinary w true = tt
indices-ordinary w false = tt

pub closing-ordinary : (w : List ℕ) (p : Pointer) → T (all_ordinary (closing w p))
unfolding all_ordinary ordinary closing closing_roads along selecting
closing-ordinary w p = tt

pub plan-ordinary : (w : File) → T (all_ordinary (plan_records w))
unfolding plan_records marking
plan-ordinary w =
    ordinary-then _ (closing w.registers w.state.pointer)
    (ordinary-then _ (indices w.registers w.state.toggle)
    (ordinary-then _ (along w.registers register_roads)
    (ordinary-then _ (marking w.state.marks)
    (ordinary-then (opening w.registers) (colours w.palette w.bank) (opening-ordinary w.registers) (colours-ordinary w.palette w.bank))
    (steps-ordinary (marked_read w.state.marks) (marked_colour w.state.marks)))
    (registers-ordinary w.registers))
    (indices-ordinary w.registers w.state.toggle))
    (closing-ordinary w.registers w.state.pointer)

-- ---- such records leave the line

pub line_stays : (rs : List Record) (f : File) → T (all_ordinary rs) → (file_after f (map Whole rs)).state.line ≡ f.state.line
unfolding all_ordinary file_after access_item
line_stays [] f t = refl
line_stays (r ∷ rs) f t =
    line_stays rs (access f r).file (right (ordinary r) (all_ordinary rs) t) ∙ ordinary-line f r (left (ordinary r) (all_ordinary rs) t)
