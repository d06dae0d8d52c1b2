-- 'Accepted, and ends in' of one record, and of lists one behind the other.
-- Assumes nothing.
use mathlib.Core.Path.{◌≡◌, refl, sym, subst}
use mathlib.Core.List.{List, [], ◌∷◌, ◌++◌, map}
use lib.Dec.{T}
use Rattle.bits.proofs.Test.{left, right, both}
use Rattle.file.specs.declared.registers.File.{File}
use Rattle.access.specs.declared.record.Item.TheVariants.{Whole}
use Rattle.access.specs.declared.record.Record.{Record}
use Rattle.access.specs.Access.{answer, access, access_item}
use Rattle.trace.specs.Run.{file_after, answers}
use Rattle.roads.specs.Restores.{accepted, all_accepted, RunsInto}

pub runs_none : (f : File) → RunsInto f [] f
unfolding all_accepted answers file_after
runs_none f = record { all_done = tt; ends = refl }

-- one record
pub runs-one : (f : File) (r : Record) (g : File) → T (accepted (answer f r)) → (access f r).file ≡ g → RunsInto f (r ∷ []) g
unfolding all_accepted answers file_after access_item access
runs-one f r g t e = record { all_done = both (accepted (answer f r)) _ t tt; ends = e }

-- lists one behind the other
pub runs_then : (rs ss : List Record) (f g h : File) → RunsInto f rs g → RunsInto g ss h → RunsInto f (rs ++ ss) h
unfolding all_accepted answers file_after access_item access
runs_then [] ss f g h r s = subst (λ (x : File). RunsInto x ss h) (sym r.ends) s
runs_then (a ∷ rs) ss f g h r s =
    let rest : RunsInto (access f a).file (rs ++ ss) h =
    runs_then rs ss (access f a).file g h
    (record { all_done = right (accepted (answer f a)) (all_accepted (answers (access f a).file (map Whole rs))) r.all_done; ends = r.ends }) s in
    record {
      all_done =
          both (accepted (answer f a)) (all_accepted (answers (access f a).file (map Whole (rs ++ ss))))
          (left (accepted (answer f a)) (all_accepted (answers (access f a).file (map Whole rs))) r.all_done) rest.all_done;
      ends = rest.ends;
    }
