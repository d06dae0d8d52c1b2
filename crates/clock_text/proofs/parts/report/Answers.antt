-- `parts::report` meets its contract. Assumes nothing.
use Prim.Native.Nat.{ℕ, ◌≤◌}
use mathlib.Core.Bool.{Bool, true}
use mathlib.Core.List.{List}
use mathlib.Core.Path.{◌≡◌, sym, ◌∙◌}
use native.Mathlib.Omega.{arith}
use lib.ListN.{length}
use Rattle.clock_text.specs.Parts.{sets_fit, summary_most}
use Rattle.clock_text.specs.Sets.{set_count}
use Rattle.clock_text.proofs.PartsReported.{never-refused, report-done, report-short}
use Rattle.clock_text.proofs.parts.report.Goals as goal

pub returns-then-not-sets_fit : goal.returns-then-not-sets_fit
unfolding summary_most
returns-then-not-sets_fit c = report-short _ _ (rw (← c.set_count.ensures) (sym c.sets_fit.ensures ∙ c.if-not-sets_fit.true))

-- the test of the sets that there are, whose number has 64 bits
fits : (count : ℕ) (fit : Bool) (input lines : List ℕ) → count ≡ set_count input → fit ≡ sets_fit count 131 (length lines) → fit ≡ true → sets_fit (set_count input) summary_most (length lines) ≡ true
unfolding summary_most
fits count fit input lines e f t = rw (← e) (sym f ∙ t)

pub returns-in-Ok : goal.returns-in-Ok
returns-in-Ok c =
    let input = c.args.input.now in
    let lines = c.args.lines.now in
    let few : set_count input ≤ 18446744073709551615 = rw (← c.set_count.ensures) (omega arith) in
    report-done input lines (fits _ _ input lines c.set_count.ensures c.sets_fit.ensures c.if-not-sets_fit.false) few c.report_part.result _
    (rw c.none.ensures at c.report_part.ensures) c.in-Ok.part c.in-Ok.is c.summary_lines.ensures.most _ _ c.summary_lines.ensures.lined

pub returns-in-Err : goal.returns-in-Err
returns-in-Err c =
    let input = c.args.input.now in
    let lines = c.args.lines.now in
    let few : set_count input ≤ 18446744073709551615 = rw (← c.set_count.ensures) (omega arith) in
    absurd (never-refused input lines (fits _ _ input lines c.set_count.ensures c.sets_fit.ensures c.if-not-sets_fit.false) few c.report_part.result _
    (rw c.none.ensures at c.report_part.ensures) c.in-Err.answer c.in-Err.is)
