use Rattle.std.proofs.Common.{◌≡◌, sym, refl, ◌∙◌, rules}
use mathlib.Core.Logic.{inl, inr}
use Rattle.bits.specs.Encoded.{table_of}
use Rattle.bits.specs.Numbers.{write_numbers}
use Rattle.bits.proofs.Rows.{write-over}
use Rattle.bits.proofs.numbers.write_numbers.Goals as goal

pub loop-number-init : goal.loop-number-init
loop-number-init c =
    let a : c.into_iter-number-iterator.result.a.rest.now ≡ c.args.table.now = search rules in
    let b : c.into_iter-number-iterator.result.b.rest.now ≡ c.args.numbers.now = search rules in
    rw (a, b) refl

pub loop-number-preserved : goal.loop-number-preserved
unfolding write_numbers table_of
loop-number-preserved c =
    let h = c.in-Some.ensures.steps in
    rw c.write.ensures (rw (h.0, h.1) at c.loop-number.invariant)

pub returns : goal.returns
returns c =
    sym (write-over c.loop-number.number-iterator.a.rest.now c.loop-number.number-iterator.b.rest.now c.loop-number.registers
    (elim c.in-None.ensures.steps [ inl t ↦ inl t.1.0 | inr t ↦ inr t.1.0 ]))
    ∙ c.loop-number.invariant
