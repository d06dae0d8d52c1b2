-- A part that was run: the replies that it filled, and what it makes of a job. Assumes nothing.
use Prim.Native.Nat.{ℕ, ◌+◌, ◌*◌, ◌≤◌}
use mathlib.Core.Bool.{Bool}
use mathlib.Core.List.{List}
use mathlib.Core.Path.{◌≡◌, refl, ap, ap₂, ◌∙◌}
use native.Mathlib.Omega.{arith}
use lib.ListN.{length, take, drop, length-append}
use lib.Seq.{take_at}
use Rattle.file.specs.declared.registers.File.{File}
use Rattle.trace.specs.Records.{items, item_count}
use Rattle.refusals.specs.declared.codes.Refusals.{Refusals}
use Rattle.refusals.specs.Counted.{counted_part, replies_counted}
use Rattle.refusals.proofs.RepliesCounted.{replies-are-items}
use Rattle.replaying.specs.declared.Part.{Part}
use Rattle.replaying.specs.Replay.{Parted, asked, part_replies}
use Rattle.replaying.proofs.PartRuns.{replies-long}
use Rattle.job_replay.specs.declared.job.TraceJob.{TraceJob}
use Rattle.job_replay.specs.Job.{Stepped, after_bytes, told_of}

module _ {f : File} {number : ℕ} {prints : Bool} {part replies₀ replies out₀ out : List ℕ} {r : Part}
    (p : Parted f number prints part replies₀ replies out₀ out r)
  where
    -- the replies that it filled
    pub said : take (8 * r.count) replies ≡ part_replies f part
    said =
        ap₂ (λ (k : ℕ) (l : List ℕ). take (8 * k) l) p.count p.replied
        ∙ take_at (part_replies f part) (drop (8 * item_count part) replies₀) (8 * item_count part) (replies-long f part)

    -- they are within
    pub said-within : 8 * r.count ≤ length replies
    said-within =
        omega (arith, p.count, ap length p.replied ∙ length-append (part_replies f part) (drop (8 * item_count part) replies₀), replies-long f part)

    -- their codes are those of its records
    pub said-counted : (before after : Refusals) → after ≡ replies_counted before (take (8 * r.count) replies) → after ≡ counted_part before f part
    unfolding counted_part part_replies
    said-counted before after e = e ∙ ap (replies_counted before) said ∙ replies-are-items before f (items (item_count part) part)

-- a part that was run, and its answers counted, is a step
pub step-done : (prints : Bool) (before : TraceJob) (part replies₀ replies out₀ out : List ℕ) (p : Part) (counted : Refusals)
    → Parted before.file before.number prints part replies₀ replies out₀ out p
    → counted ≡ replies_counted before.refusals (take (8 * p.count) replies)
    → Stepped prints before part out₀ out
    (record { job = record { number = before.number + p.count; file = p.file; refusals = counted }; used = length part; end = p.end })
unfolding after_bytes told_of asked
step-done prints before part replies₀ replies out₀ out p counted parted e =
    let all = said-counted parted before.refusals counted e in
    record {
      become = λ i. record { number = before.number + parted.count i; file = parted.file i; refusals = all i };
      used = refl;
      end = parted.end;
      printed = parted.printed;
    }
