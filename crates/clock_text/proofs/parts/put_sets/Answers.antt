-- `parts::put_sets` meets its contract: set by set, and then the fragment. Assumes nothing.
use mathlib.Core.List.{[]}
use mathlib.Core.Path.{◌∙◌, ap, refl, sym}
use borrow.Author.Tests.{eqb-false, eqb-true}
use lib.ListN.{length}
use Rattle.clock_text.proofs.SetsPut.{fragment-left, fragment-next, putting-all, putting-next, putting-none, set-fits, three-next, whole-next, whole-none}
use Rattle.clock_text.proofs.parts.put_sets.Goals as goal

pub loop-set-init : goal.loop-set-init
loop-set-init c =
    let sets = c.chunks_exact-sets.ensures in
    rw c.into_iter-set-iterator.ensures.into_iter_gives
    (record {
      size = sets.size;
      whole = rw sets.rest (whole-none c.args.input.now);
      held = rw sets.rest (putting-none c.args.before c.args.input.now c.args.lines.now c.requires.countable);
    })

pub put_set-part-requires : goal.put_set-part-requires
put_set-part-requires c =
    let here = c.loop-set.invariant in
    let step = c.in-Some.ensures.steps.1 in
    set-fits _ _ _ _ _ _ _ here.held _ _ (three-next _ _ _ step.0 (step.1 ∙ here.size)) c.requires.input_in_bounds

pub loop-set-preserved : goal.loop-set-preserved
loop-set-preserved c =
    let here = c.loop-set.invariant in
    let step = c.in-Some.ensures.steps.1 in
    record {
      size = c.in-Some.ensures.steps.0 ∙ here.size;
      whole = whole-next _ _ here.whole _ _ step.0 (step.1 ∙ here.size);
      held = rw c.put_set-part.ensures.tally
          (putting-next _ _ _ _ _ _ _ here.held _ _ (three-next _ _ _ step.0 (step.1 ∙ here.size)) _ _ c.put_set-part.ensures.wrote);
    }

pub returns-then-is_empty : goal.returns-then-is_empty
returns-then-is_empty c =
    let here = c.loop-set.invariant in
    let fewer = rw here.size at c.in-None.ensures.steps.1.0 in
    let all = fragment-left _ _ here.whole fewer _ (c.remainder-fragment.ensures ∙ c.chunks_exact-sets.ensures.remainder) in
    putting-all _ _ _ _ _ _ _ here.held (sym (ap length all) ∙ eqb-true _ 0 (sym c.is_empty.ensures ∙ c.if-is_empty.true))

pub put_set-requires : goal.put_set-requires
put_set-requires c =
    let here = c.loop-set.invariant in
    let fewer = rw here.size at c.in-None.ensures.steps.1.0 in
    let next = fragment-next _ _ here.whole fewer _ (c.remainder-fragment.ensures ∙ c.chunks_exact-sets.ensures.remainder) in
    set-fits _ _ _ _ _ _ _ here.held _ _ (next (eqb-false _ 0 (sym c.is_empty.ensures ∙ c.if-is_empty.false))) c.requires.input_in_bounds

pub returns : goal.returns
returns c =
    let here = c.loop-set.invariant in
    let fewer = rw here.size at c.in-None.ensures.steps.1.0 in
    let next = fragment-next _ _ here.whole fewer _ (c.remainder-fragment.ensures ∙ c.chunks_exact-sets.ensures.remainder) in
    let last = next (eqb-false _ 0 (sym c.is_empty.ensures ∙ c.if-is_empty.false)) in
    let done = rw (sym c.put_set.ensures.tally) at (putting-next _ _ _ _ _ _ _ here.held _ _ last _ _ c.put_set.ensures.wrote) in
    putting-all _ _ _ _ _ _ [] done refl
