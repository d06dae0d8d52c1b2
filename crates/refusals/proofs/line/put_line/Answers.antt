-- `line::put_line` meets its contract. Assumes nothing.
use mathlib.Core.Path.{refl, sym, ◌∙◌}
use native.Mathlib.Omega.{arith}
use borrow.Author.Tests.{eq-eqb}
use Rattle.text.specs.Text.{newline}
use Rattle.text.proofs.Stores.{then-text}
use Rattle.refusals.specs.Said.{refused_sum, refused_text}
use Rattle.refusals.proofs.Lengths.{said-length, said-text}
use Rattle.refusals.proofs.line.put_line.Goals as goal

pub returns-then-sum-eq0 : goal.returns-then-sum-eq0
unfolding refused_text
returns-then-sum-eq0 c =
    let counts = c.args.counts.now in
    rw (eq-eqb (refused_sum counts) 0 (sym c.refused_sum-sum.ensures ∙ c.if-sum-eq0.true)) (record { bytes = refl; place = refl })

pub put_head-at-requires : goal.put_head-at-requires
put_head-at-requires c =
    let args = c.args in
    omega (arith, said-length args.number c.refused_sum-sum.result args.counts.now c.refused_sum-sum.ensures c.if-sum-eq0.false)

pub put_codes-at-requires : goal.put_codes-at-requires
put_codes-at-requires c =
    let args = c.args in
    let long =
    said-length args.number c.refused_sum-sum.result args.counts.now c.refused_sum-sum.ensures c.if-sum-eq0.false in
    omega (arith, long, c.put_head-at.ensures.place)

pub returns : goal.returns
unfolding newline
returns c =
    let args = c.args in
    let long =
    said-length args.number c.refused_sum-sum.result args.counts.now c.refused_sum-sum.ensures c.if-sum-eq0.false in
    let end = c.put.ensures.stored (omega (arith, long, c.put_head-at.ensures.place, c.put_codes-at.ensures.place)) in
    rw (said-text args.number c.refused_sum-sum.result args.counts.now c.refused_sum-sum.ensures c.if-sum-eq0.false)
    (then-text (then-text c.put_head-at.ensures c.put_codes-at.ensures) end)
