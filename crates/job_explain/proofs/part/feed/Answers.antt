use Prim.Native.Nat.{◌+◌, ◌<◌, min}
use mathlib.Core.Path.{refl, sym, ◌∙◌}
use native.Mathlib.Omega.{arith}
use lib.ListN.{length}
use lib.Seq.{length-take-le}
use Rattle.job_explain.specs.Job.{bytes_taken}
use Rattle.job_explain.proofs.Turns.{held_all, held_next, held_none, is-piece, is-rest, left-long, number-left, room-left, step-takes}
use Rattle.job_explain.proofs.part.feed.Goals as goal

pub slice_bounds-chunks-end : goal.slice_bounds-chunks-end
slice_bounds-chunks-end c =
    let args = c.args in
    let takes = step-takes args.before.number args.last args.part.now (length args.out.now) in
    sym (length-take-le c.bytes_taken-bytes.result args.part.now (omega (arith, c.bytes_taken-bytes.ensures, takes.within)))

pub loop-record-init : goal.loop-record-init
loop-record-init c =
    let args = c.args in
    let chunks = c.chunks-record-items.ensures in
    let takes = step-takes args.before.number args.last args.part.now (length args.out.now) in
    rw c.into_iter-record-iterator.ensures.into_iter_gives
    (record {
      eight = chunks.size;
      at = 0;
      there = chunks.rest;
      held = held_none args.sums args.before args.part.now args.out.now c.bytes_taken-bytes.result (rw c.bytes_taken-bytes.ensures takes);
    })

pub explain_record-turn-requires : goal.explain_record-turn-requires
explain_record-turn-requires c =
    let args = c.args in
    let here = c.loop-record in
    let going = here.invariant in
    let bytes = c.bytes_taken-bytes.result in
    let step = c.in-Some.ensures.steps in
    let some = left-long args.part.now bytes going.at going.held.takes.within going.held.near _ going.there in
    let left : going.at < bytes = omega (arith, some, step.1.2) in record {
      record_most_in_bounds = room-left args.sums args.before args.part.now args.out.now bytes here.out here.job going.at here.end going.held left;
      number_bound = number-left args.sums args.before args.part.now args.out.now bytes here.out here.job going.at here.end going.held left;
    }

pub loop-record-preserved : goal.loop-record-preserved
loop-record-preserved c =
    let args = c.args in
    let here = c.loop-record in
    let going = here.invariant in
    let bytes = c.bytes_taken-bytes.result in
    let within = going.held.takes.within in
    let near = going.held.near in
    let step = c.in-Some.ensures.steps in
    let some = left-long args.part.now bytes going.at within near _ going.there in
    let left : going.at < bytes = omega (arith, some, step.1.2) in
    let size = rw going.eight at step.1.1 in
    let piece = is-piece args.part.now bytes going.at within near _ going.there _ _ step.1.0 size in
    let turned = rw piece at c.explain_record-turn.ensures in record {
      eight = step.0 ∙ going.eight;
      at = min (going.at + 8) bytes;
      there = is-rest args.part.now bytes going.at within near _ going.there _ _ step.1.0 size;
      held = held_next args.sums args.before args.part.now args.out.now bytes here.out here.job going.at here.end going.held left (min (going.at + 8) bytes) refl _ c.explain_record-turn.result turned;
    }

pub returns : goal.returns
returns c =
    let args = c.args in
    let here = c.loop-record in
    let going = here.invariant in
    let bytes = c.bytes_taken-bytes.result in
    let taken = bytes_taken args.before.number args.last args.part.now (length args.out.now) in
    let none = left-long args.part.now bytes going.at going.held.takes.within going.held.near _ going.there in
    held_all args.sums args.before args.part.now args.out.now bytes here.out here.job going.at
    here.end going.held taken c.bytes_taken-bytes.ensures (λ more. omega (arith, more, none, c.in-None.ensures.steps.1.0))
