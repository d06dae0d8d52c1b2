use Rattle.std.proofs.Common.{sym, refl, ◌∙◌, arith}
use Rattle.bits.proofs.Rows.{read_next, read-last}
use Rattle.bits.proofs.numbers.read_numbers.Goals as goal

pub loop-k-init : goal.loop-k-init
loop-k-init c = refl

pub loop-k-preserved : goal.loop-k-preserved
loop-k-preserved c =
    let k = c.loop-k.k in
    let h = c.read-last in
    read_next c.args.table.now k _ (omega arith) c.args.registers.now c.loop-k.numbers c.loop-k.last c.read-last.result (omega arith) c.read-last.ensures
    ∙ c.loop-k.invariant

pub returns : goal.returns
returns c =
    sym (read-last c.args.table.now c.args.registers.now c.loop-k.numbers c.loop-k.last c.loop-k.k (omega (arith, c.min-k-end.ensures)))
    ∙ c.loop-k.invariant
