-- `reader::cursor_in` meets its contract: E0 and E2 hold 12 bits in a sound file. Assumes nothing.
use native.Mathlib.Nat.{div-one}
use native.Mathlib.Omega.{arith}
use mir.Syntax.{w16}
use mir.ValLaws.{to_z-of_z}
use Rattle.bits.specs.Store.{bit, bits}
use Rattle.file.specs.File.{register}
use Rattle.file.specs.Registers.{stored_bits, stored_table}
use Rattle.geometry.specs.Geometry.{cursor_in, mark}
use Rattle.geometry.proofs.StoredBelow.{stored-below}
use Rattle.geometry.proofs.reader.cursor_in.Goals as goal

pub less_preset-requires : goal.less_preset-requires
unfolding stored_bits stored_table
less_preset-requires c =
    omega (arith, stored-below c.args.file 95 4096 tt c.requires)

pub less_preset-requires-2 : goal.less_preset-requires-2
unfolding stored_bits stored_table
less_preset-requires-2 c =
    omega (arith, stored-below c.args.file 96 4096 tt c.requires)

pub returns : goal.returns
unfolding cursor_in register mark bit bits
returns c =
    let left = c.less_preset in
    let top = c.less_preset-2 in
    rw (to_z-of_z w16 left.result (record { sfits = left.type_inv }), to_z-of_z w16 top.result (record { sfits = top.type_inv }), left.ensures, top.ensures, c.saturating_sub.ensures, c.saturating_sub-2.ensures, c.from.ensures)
    (simp div-one)
