use Prim.Native.Nat.{◌+◌, ◌-◌, ◌*◌}
use mathlib.Core.Path.{◌≡◌, refl, sym, ap, ◌∙◌}
use native.Mathlib.Omega.{arith}
use lib.ListN.{length, get_or, drop}
use lib.Seq.{sets}
use Rattle.trace.specs.Records.{two}
use Rattle.text.specs.Counted.{Next}
use Rattle.text.specs.Text.{reply_lines}
use Rattle.text.proofs.Counted.{as_long, counted-up, long-enough}
use Rattle.text.proofs.Lines.{line-length}
use Rattle.text.proofs.Replies.{all_lines, next-line, next-line-length, no-line-left}
use Rattle.text.proofs.Stores.{rest-stored}
use Rattle.text.proofs.line.lines.Goals as goal

pub loop-n-init : goal.loop-n-init
unfolding Next
loop-n-init c =
    let args = c.args in
    let all = all_lines args.count args.number args.replies.now in
    (ap (sets args.buffer.now args.at) all, omega (arith, ap length all), omega arith, refl, omega arith, λ low. absurd (omega arith))

pub overflow_add-number : goal.overflow_add-number
overflow_add-number c = omega arith

pub count_up-size-requires : goal.count_up-size-requires
count_up-size-requires c = record {
  size_nonzero = c.loop-n.invariant.4;
  next = c.loop-n.invariant.5;
}

pub slice_bounds-figures-end : goal.slice_bounds-figures-end
slice_bounds-figures-end c = long-enough c.count_up-size.ensures.spells

pub slice_bounds-reply_line-end : goal.slice_bounds-reply_line-end
slice_bounds-reply_line-end c = sym (as_long c.count_up-size.ensures.spells)

pub overflow_mul-n : goal.overflow_mul-n
overflow_mul-n c = omega arith

pub reply_line-at-requires : goal.reply_line-at-requires
reply_line-at-requires c =
    let args = c.args in
    let here = c.loop-n in
    let spells = c.count_up-size.ensures.spells in
    let line = line-length (args.number + here.n) (get_or args.replies.now (8 * here.n) 0) (two args.replies.now (8 * here.n + 4)) _ _ spells.many refl in record {
      from_in_bounds = omega arith;
      from_in_bounds_2 = omega (arith, as_long spells, line, next-line-length args.count args.number args.replies.now here.n (omega arith));
    }

pub loop-n-preserved : goal.loop-n-preserved
loop-n-preserved c =
    let args = c.args in
    let here = c.loop-n in
    let spells = c.count_up-size.ensures.spells in
    let wrote = c.reply_line-at.ensures (args.number + here.n) spells.spelled in
    let next = next-line args.count args.number args.replies.now here.n (omega arith) in
    let size = next-line-length args.count args.number args.replies.now here.n (omega arith) in
    let up : args.number + (here.n + 1) ≡ args.number + here.n + 1 = omega arith in (
      rest-stored (reply_lines (args.count - (here.n + 1)) (args.number + (here.n + 1)) (drop (8 * (here.n + 1)) args.replies.now)) wrote
          ∙ ap (sets here.buffer here.at) next
          ∙ here.invariant.0,
      omega (arith, wrote.place),
      omega arith,
      omega arith,
      c.count_up-size.ensures.result_nonzero,
      rw up (counted-up (args.number + here.n) _ c.count_up-size.result spells),
    )

pub shape_of-buffer : goal.shape_of-buffer
shape_of-buffer c = c.loop-n.invariant.3

pub returns : goal.returns
returns c =
    let args = c.args in
    let here = c.loop-n in
    let none = no-line-left args.count (args.number + here.n) (drop (8 * here.n) args.replies.now) here.n (omega arith) in
    record { bytes = rw none at here.invariant.0; place = omega (arith, ap length none) }
