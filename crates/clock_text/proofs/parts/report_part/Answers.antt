-- `parts::report_part` meets its contract. Assumes nothing.
use mathlib.Core.Bool.{true}
use mathlib.Core.Path.{◌≡◌, sym, ◌∙◌}
use native.Mathlib.Omega.{arith}
use lib.ListN.{length}
use Rattle.clock_text.specs.Parts.{sets_fit}
use Rattle.clock_text.specs.Sets.{set_count}
use Rattle.clock_text.proofs.PartsReported.{countable, part-done, part-full, part-short, sets-room}
use Rattle.clock_text.proofs.parts.report_part.Goals as goal

pub returns-then-not-sets_fit : goal.returns-then-not-sets_fit
returns-then-not-sets_fit c = part-short _ _ _ (rw (← c.set_count-count.ensures) (sym c.sets_fit.ensures ∙ c.if-not-sets_fit.true))

pub returns-then-not-counts_fit : goal.returns-then-not-counts_fit
returns-then-not-counts_fit c =
    part-full _ _ _ (rw (← c.set_count-count.ensures) (sym c.sets_fit.ensures ∙ c.if-not-sets_fit.false))
    (rw (← c.set_count-count.ensures) (sym c.counts_fit.ensures ∙ c.if-not-counts_fit.true))

pub put_sets-requires-clause-input_in_bounds : goal.put_sets-requires-clause-input_in_bounds
put_sets-requires-clause-input_in_bounds c =
    let fit : sets_fit (set_count c.args.input.now) 0 (length c.args.lines.now) ≡ true = rw (← c.set_count-count.ensures) (sym c.sets_fit.ensures ∙ c.if-not-sets_fit.false) in
    omega (arith, sets-room (set_count c.args.input.now) 0 (length c.args.lines.now) fit)

pub put_sets-requires-clause-countable : goal.put_sets-requires-clause-countable
put_sets-requires-clause-countable c = countable _ _ (rw (← c.set_count-count.ensures) (sym c.counts_fit.ensures ∙ c.if-not-counts_fit.false))

pub returns : goal.returns
returns c =
    part-done _ _ _ (rw (← c.set_count-count.ensures) (sym c.sets_fit.ensures ∙ c.if-not-sets_fit.false))
    (rw (← c.set_count-count.ensures) (sym c.counts_fit.ensures ∙ c.if-not-counts_fit.false)) _ _ c.put_sets.ensures
