-- `put_index` meets its contract. Assumes nothing.
use mathlib.Core.Path.{sym, ◌∙◌}
use native.Mathlib.Omega.{arith}
use Rattle.plan.proofs.Appending.{append-none}
use Rattle.plan.proofs.RowsAsRoads.{selecting-by}
use Rattle.plan.proofs.rows.put_index.Goals as goal

pub port_write-requires : goal.port_write-requires
port_write-requires c =
    let one = rw (sym c.is_index_port.ensures ∙ c.if-is_index_port.true) at (selecting-by c.args.port c.args.index) in
    omega (arith, rw one at c.requires)

pub returns-then-is_index_port : goal.returns-then-is_index_port
returns-then-is_index_port c =
    let one = rw (sym c.is_index_port.ensures ∙ c.if-is_index_port.true) at (selecting-by c.args.port c.args.index) in
    rw one c.port_write.ensures

pub returns : goal.returns
returns c =
    let none = rw (sym c.is_index_port.ensures ∙ c.if-is_index_port.false) at (selecting-by c.args.port c.args.index) in
    rw none (append-none c.args.buffer.now c.args.at)
