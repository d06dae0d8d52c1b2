use Prim.Native.Nat.{ℕ, ◌*◌}
use mathlib.Core.Path.{◌≡◌, refl, sym, ap, ◌∙◌}
use mathlib.Core.List.{◌++◌}
use native.Mathlib.Omega.{arith}
use lib.ListN.{length, drop}
use Rattle.trace.specs.Records.{item_count, items}
use Rattle.trace.specs.Run.{run, ran, run_count, file_after, replies}
use Rattle.plain.proofs.RunByItems.{buffer-long, held-step, has-record, has-place}
use Rattle.plain.proofs.running.run.Goals as goal

pub is_sound-requires : goal.is_sound-requires
is_sound-requires c = tt

pub returns-then-not-is_sound : goal.returns-then-not-is_sound
unfolding run
returns-then-not-is_sound c = rw (sym c.is_sound.ensures ∙ c.if-not-is_sound.true) (record { answer_value = (refl, refl, refl); replies_after = refl })

pub loop-n-init : goal.loop-n-init
unfolding file_after items replies
loop-n-init c = record { reached = omega arith; file = refl; said = refl }

pub run_one-file-requires : goal.run_one-file-requires
run_one-file-requires c =
    let turn = c.loop-n in
    let more = c.loop-n-test.true in
    let count = c.reply_count-count.ensures in
    let room = has-place turn.n _ (length c.args.trace.now) (length c.args.replies.now) more count in (
      has-record turn.n _ (length c.args.trace.now) (length c.args.replies.now) more count,
      omega (arith, room, buffer-long _ _ _ turn.invariant (omega (arith, room))),
    )

pub overflow_step-n : goal.overflow_step-n
overflow_step-n c = record { fits = omega (arith, has-place c.loop-n.n _ (length c.args.trace.now) (length c.args.replies.now) c.loop-n-test.true c.reply_count-count.ensures) }

pub loop-n-smaller : goal.loop-n-smaller
loop-n-smaller c = omega (arith, c.loop-n-test.true)

pub loop-n-preserved : goal.loop-n-preserved
loop-n-preserved c =
    held-step _ _ _ c.loop-n.invariant c.loop-n-test.true _ _ c.run_one-file.ensures.value c.run_one-file.ensures.replies_after

pub shape_of-replies : goal.shape_of-replies
shape_of-replies c = buffer-long _ _ _ c.loop-n.invariant (omega (arith, c.loop-n.invariant.reached, c.reply_count-count.ensures))

pub returns : goal.returns
unfolding run ran run_count item_count
returns c =
    let inv = c.loop-n.invariant in
    let all : c.loop-n.n ≡ c.reply_count-count.result = omega (arith, c.loop-n-test.false, inv.reached) in
    let count = c.reply_count-count.ensures in
    rw (sym c.is_sound.ensures ∙ c.if-not-is_sound.false) (record {
      answer_value = (refl, inv.file ∙ ap (λ (k : ℕ). file_after c.args.whole (items k c.args.trace.now)) (all ∙ count), count);
      replies_after =
          inv.said
          ∙ ap (λ (k : ℕ). replies c.args.whole (items k c.args.trace.now) ++ drop (8 * k) c.args.replies.now) (all ∙ count);
    })
