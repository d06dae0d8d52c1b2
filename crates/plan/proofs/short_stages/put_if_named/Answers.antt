-- `put_if_named` meets its contract. Assumes nothing.
use mathlib.Core.Path.{sym, ◌∙◌}
use native.Mathlib.Omega.{arith}
use Rattle.plan.proofs.Appending.{append-none}
use Rattle.plan.proofs.NamedRows.{named-one, named_none}
use Rattle.plan.proofs.short_stages.put_if_named.Goals as goal

pub put_register-requires : goal.put_register-requires
put_register-requires c =
    let one = named-one c.args.registers.now c.args.named.now c.args.row (sym c.is_marked.ensures ∙ c.if-is_marked.true) in
    omega (arith, rw one at c.requires)

pub returns-then-is_marked : goal.returns-then-is_marked
returns-then-is_marked c =
    rw (named-one c.args.registers.now c.args.named.now c.args.row (sym c.is_marked.ensures ∙ c.if-is_marked.true)) c.put_register.ensures

pub returns : goal.returns
returns c =
    rw (named_none c.args.registers.now c.args.named.now c.args.row (sym c.is_marked.ensures ∙ c.if-is_marked.false))
    (append-none c.args.buffer.now c.args.at)
