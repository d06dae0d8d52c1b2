-- `run_sound_noting` meets its contract: one law for each way that a run ends. Assumes nothing.
use Prim.Native.Nat.{◌+◌, ◌*◌, ◌/◌, ◌<◌}
use mathlib.Core.Path.{sym, ◌∙◌}
use native.Mathlib.Omega.{arith}
use lib.ListN.{length}
use Rattle.trace.proofs.RunEnds.{by-places, by-records, by-fragment, fragment-file, fragment-replies}
use Rattle.trace.proofs.RunLoop.{next-said, buffer-long}
use Rattle.noting.proofs.RunReaches.{next-fragment, sound-run}
use Rattle.noting.proofs.running.run_sound_noting.Goals as goal

pub returns-then-places-full : goal.returns-then-places-full
returns-then-places-full c =
    let trace = c.args.trace.now in
    let places = c.args.replies.now in
    let whole = c.run_whole_noting.ensures in
    sound-run c.args.touched c.args.whole trace places _ (length places / 8) c.ran.result _ _ c.requires
    (sym (by-places trace places (omega (arith, c.if-places-full.true)))) whole.file_value.0 whole.file_value.1 whole.replies_after c.ran.ensures

pub returns-then-trace-eq0 : goal.returns-then-trace-eq0
returns-then-trace-eq0 c =
    let trace = c.args.trace.now in
    let places = c.args.replies.now in
    let whole = c.run_whole_noting-behind.ensures in
    sound-run c.args.touched c.args.whole trace places _ (length trace / 8) c.ran-then-trace-eq0.result _ _ c.requires
    (sym (by-records trace places (omega (arith, c.if-places-full.false)) (omega (arith, c.if-trace-eq0.true)))) whole.file_value.0 whole.file_value.1 whole.replies_after
    c.ran-then-trace-eq0.ensures

pub returns : goal.returns
returns c =
    let file = c.args.whole in
    let trace = c.args.trace.now in
    let places = c.args.replies.now in
    let whole = c.run_whole_noting-behind.ensures in
    let short : length trace < 8 * (length trace / 8) + 8 = omega arith in
    let long = buffer-long file trace places {count = length trace / 8} (record { reached = omega arith; file = whole.file_value.0; said = whole.replies_after }) (omega (arith, c.if-places-full.false)) in
    sound-run c.args.touched file trace places _ (length trace / 8 + 1) c.ran-2.result _ _ c.requires
    (sym (by-fragment trace places (omega (arith, c.if-places-full.false)) (λ e. let no : ⊥ = omega (arith, e, c.if-trace-eq0.false) in no)))
    (whole.file_value.0 ∙ sym (fragment-file file trace (length trace / 8) short))
    (whole.file_value.1 ∙ sym (next-fragment c.args.touched file trace (length trace / 8) short))
    (c.put_fragment.ensures.replies_after (omega arith) (omega (arith, long, c.if-places-full.false))
    ∙ next-said file trace places (length trace / 8) _ _ whole.replies_after (fragment-replies file trace (length trace / 8) short c.requires))
    c.ran-2.ensures
