-- `run_sound` meets its contract: one law for each way that a run ends. Assumes nothing.
use Prim.Native.Nat.{ℕ, ◌+◌, ◌*◌, ◌/◌, ◌<◌}
use mathlib.Core.Path.{refl, sym, ap, ◌∙◌}
use mathlib.Core.List.{◌++◌}
use native.Mathlib.Omega.{arith}
use lib.ListN.{length, drop}
use Rattle.trace.specs.Records.{items}
use Rattle.trace.specs.Run.{file_after, replies}
use Rattle.trace.proofs.RunEnds.{by-places, by-records, by-fragment, fragment-file, fragment-replies}
use Rattle.trace.proofs.RunLoop.{next-said}
use borrow.Author.Rules.{rules}
use Rattle.trace.proofs.running.run_sound.Goals as goal

pub returns-then-places-full : goal.returns-then-places-full
returns-then-places-full c =
    let trace = c.args.trace.now in
    let count = by-places trace c.args.replies.now (omega (arith, c.if-places-full.true)) in record {
      answer_value = (
        refl,
        c.run_whole.ensures.value ∙ ap (λ (k : ℕ). file_after c.args.whole (items k trace)) (sym count),
        sym count,
      );
      replies_after = c.run_whole.ensures.replies_after ∙ ap (λ (k : ℕ). replies c.args.whole (items k trace) ++ drop (8 * k) c.args.replies.now) (sym count);
    }

pub returns-then-trace-eq0 : goal.returns-then-trace-eq0
returns-then-trace-eq0 c =
    let trace = c.args.trace.now in
    let count = by-records trace c.args.replies.now (omega (arith, c.if-places-full.false)) (omega (arith, c.if-trace-eq0.true)) in record {
      answer_value = (
        refl,
        c.run_whole-file.ensures.value ∙ ap (λ (k : ℕ). file_after c.args.whole (items k trace)) (sym count),
        sym count,
      );
      replies_after = c.run_whole-file.ensures.replies_after ∙ ap (λ (k : ℕ). replies c.args.whole (items k trace) ++ drop (8 * k) c.args.replies.now) (sym count);
    }

pub returns : goal.returns
returns c =
    let trace = c.args.trace.now in
    let short : length trace < 8 * (length trace / 8) + 8 = omega arith in
    let count = by-fragment trace c.args.replies.now (omega (arith, c.if-places-full.false)) (λ e. let no : ⊥ = omega (arith, e, c.if-trace-eq0.false) in no) in record {
      answer_value = (
        refl,
        c.run_whole-file.ensures.value ∙ sym (fragment-file c.args.whole trace (length trace / 8) short) ∙ ap (λ (k : ℕ). file_after c.args.whole (items k trace)) (sym count),
        sym count,
      );
      replies_after = c.put_fragment.ensures.replies_after (omega arith) (search rules) ∙ next-said c.args.whole trace c.args.replies.now (length trace / 8) _ _ c.run_whole-file.ensures.replies_after (fragment-replies c.args.whole trace (length trace / 8) short c.requires) ∙ ap (λ (k : ℕ). replies c.args.whole (items k trace) ++ drop (8 * k) c.args.replies.now) (sym count);
    }
