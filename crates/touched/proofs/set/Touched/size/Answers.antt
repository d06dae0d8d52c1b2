-- `size` meets its contract: at most 383 things are named. Assumes nothing.
use native.Mathlib.Omega.{arith}
use mathlib.Core.List.{[], ◌∷◌}
use Rattle.touched.specs.Things.{many, size}
use Rattle.touched.proofs.SetIsSet.{is-set}
use Rattle.touched.proofs.Turns.{counted, many-few}
use Rattle.touched.proofs.set.Touched.size.Goals as goal

pub overflow_add-result : goal.overflow_add-result
overflow_add-result c =
    let self = c.args.self in
    let is = is-set self _ c.well_formed.0 in
    omega (arith, counted self.registers c.many.ensures, counted self.palette c.many-2.ensures, many-few self.registers, many-few self.palette, is.registers, is.palette)

pub overflow_add-result-2 : goal.overflow_add-result-2
overflow_add-result-2 c =
    let self = c.args.self in
    let is = is-set self _ c.well_formed.0 in
    omega (
      arith,
      counted self.registers c.many.ensures,
      counted self.palette c.many-2.ensures,
      counted self.bank c.many-3.ensures,
      many-few self.registers,
      many-few self.palette,
      many-few self.bank,
      is.registers,
      is.palette,
      is.bank,
    )

pub overflow_add-result-3 : goal.overflow_add-result-3
overflow_add-result-3 c =
    let self = c.args.self in
    let is = is-set self _ c.well_formed.0 in
    omega (
      arith,
      counted self.registers c.many.ensures,
      counted self.palette c.many-2.ensures,
      counted self.bank c.many-3.ensures,
      counted (self.pointer ∷ self.marks ∷ self.toggle ∷ []) c.many-4.ensures,
      many-few self.registers,
      many-few self.palette,
      many-few self.bank,
      many-few (self.pointer ∷ self.marks ∷ self.toggle ∷ []),
      is.registers,
      is.palette,
      is.bank,
    )

pub returns : goal.returns
unfolding size many
returns c =
    let self = c.args.self in
    omega (
      arith,
      counted self.registers c.many.ensures,
      counted self.palette c.many-2.ensures,
      counted self.bank c.many-3.ensures,
      counted (self.pointer ∷ self.marks ∷ self.toggle ∷ []) c.many-4.ensures,
    )
