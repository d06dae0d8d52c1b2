-- `put::put_code` meets its contract. Assumes nothing.
use mathlib.Core.Path.{refl}
use native.Mathlib.Omega.{arith}
use borrow.Author.Tests.{eq-eqb, ne_eqb}
use lib.ListN.{length-append}
use Rattle.text.proofs.Stores.{then-text}
use Rattle.refusals.specs.Said.{code_told, start_text, times_text}
use Rattle.refusals.proofs.put.put_code.Goals as goal

pub returns-then-times-eq0 : goal.returns-then-times-eq0
unfolding code_told
returns-then-times-eq0 c = rw (eq-eqb _ _ c.if-times-eq0.true) (record { bytes = refl; place = omega arith })

pub put_start-at-requires : goal.put_start-at-requires
unfolding code_told
put_start-at-requires c =
    let args = c.args in
    let long = length-append (start_text args.first args.code) (times_text args.times) in
    omega (arith, rw (ne_eqb _ _ c.if-times-eq0.false) at c.requires, long)

pub put_times-requires : goal.put_times-requires
unfolding code_told
put_times-requires c =
    let args = c.args in
    let long = length-append (start_text args.first args.code) (times_text args.times) in
    omega (arith, rw (ne_eqb _ _ c.if-times-eq0.false) at c.requires, long, c.put_start-at.ensures.place)

pub returns : goal.returns
unfolding code_told
returns c =
    rw (ne_eqb _ _ c.if-times-eq0.false) (then-text c.put_start-at.ensures c.put_times.ensures)
