-- What counts elements of a list; how many records a buffer and a plan have. Assumes nothing.
use Rattle.std.proofs.Common.{ℕ, ◌≤◌, List, length, arith, length-take}
use Rattle.std.specs.Prelude.{Ok}
use Rattle.io.specs.Counts.{IsPrefixLen}
use Rattle.file.specs.declared.registers.File.{File}
use Rattle.trace.specs.Records.{item_count}
use Rattle.roads.specs.Restores.{IsFile}
use Rattle.roads.proofs.PlanCount.{plan-room}
use Rattle.touched.specs.declared.set.Touched.{Touched}
use Rattle.plan.specs.Promises.{PlanKept}
use Rattle.plan.specs.ShortPromises.{ShortKept}

-- a number up to the length of a list counts elements at its start
pub counts : (l : List ℕ) (n : ℕ) → n ≤ length l → IsPrefixLen n l
counts l n h = (h, rw length-take (omega (arith, h)))

-- 8,192 bytes have at most 1,024 records
pub part-within : (part : List ℕ) → length part ≤ 8192 → item_count part ≤ 1024
unfolding item_count
part-within part h = omega (arith, h)

pub plan-within : (w : File) (before after : List ℕ) (count : ℕ) → PlanKept w before after (Ok count) → count ≤ 1024
plan-within w before after count k = omega (arith, k.told.written.counted, k.told.written.plans.room)

pub short-within : (f w : File) (s : Touched) (before after : List ℕ) (count : ℕ) → ShortKept f w s before after (Ok count) → IsFile w → count ≤ 1024
short-within f w s before after count k file = omega (arith, k.told.counted, k.told.plans.no_longer, plan-room w file)
