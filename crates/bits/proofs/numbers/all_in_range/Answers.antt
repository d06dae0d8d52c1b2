use Rattle.std.proofs.Common.{◌≡◌, refl, sym, ◌∙◌, rules, arith}
use mathlib.Core.Logic.{inl, inr}
use Rattle.bits.specs.Encoded.{table_of}
use Rattle.bits.specs.Numbers.{ranges_from, all_in_range}
use Rattle.bits.proofs.Rows.{range-over, range-uncounted}
use Rattle.bits.proofs.numbers.all_in_range.Goals as goal

pub returns-then-table-numbers : goal.returns-then-table-numbers
returns-then-table-numbers c = sym (range-uncounted c.args.table.now c.args.numbers.now c.if-table-numbers.true)

pub loop-number-init : goal.loop-number-init
unfolding all_in_range
loop-number-init c =
    let a : c.into_iter-number-iterator.result.a.rest.now ≡ c.args.table.now = search rules in
    let b : c.into_iter-number-iterator.result.b.rest.now ≡ c.args.numbers.now = search rules in
    rw (a, b) (refl, omega arith)

pub returns-then-not-in_range : goal.returns-then-not-in_range
unfolding ranges_from table_of
returns-then-not-in_range c =
    let h = c.in-Some.ensures.steps in
    rw (h.0, h.1, ← c.in_range.ensures, c.if-not-in_range.true) at c.loop-number.invariant.0

pub loop-number-preserved : goal.loop-number-preserved
unfolding ranges_from table_of
loop-number-preserved c =
    let h = c.in-Some.ensures.steps in
    (rw (h.0, h.1, ← c.in_range.ensures, c.if-not-in_range.false) at c.loop-number.invariant.0, omega (arith, rw (h.0, h.1) at c.loop-number.invariant.1))

pub returns : goal.returns
returns c =
    range-over c.loop-number.last c.loop-number.number-iterator.a.rest.now c.loop-number.number-iterator.b.rest.now c.loop-number.invariant.1
    (elim c.in-None.ensures.steps [ inl t ↦ inl t.1.0 | inr t ↦ inr t.1.0 ])
    ∙ c.loop-number.invariant.0
