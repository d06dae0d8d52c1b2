-- `sedgecoil_load_parts` meets its contract. Assumes nothing.
use mathlib.Core.Path.{sym, ap, ◌∙◌}
use Rattle.host.specs.Calls.{code_told, registers_told, rest_told, set_told}
use Rattle.host.proofs.sedgecoil_load_parts.Goals as goal

pub returns-in-Ok : goal.returns-in-Ok
unfolding code_told registers_told rest_told set_told
returns-in-Ok c =
    let e = sym c.in-Ok.is ∙ c.load.ensures in (
      ap code_told e,
      ap (λ r. registers_told r c.args.registers.now) e,
      ap (λ r. rest_told r c.args.rest.now) e,
      ap (λ r. set_told r c.args.set.now) e,
    )

pub returns-in-Err : goal.returns-in-Err
unfolding code_told registers_told rest_told set_told
returns-in-Err c =
    let e = sym c.in-Err.is ∙ c.load.ensures in (
      c.code.ensures ∙ ap code_told e,
      ap (λ r. registers_told r c.args.registers.now) e,
      ap (λ r. rest_told r c.args.rest.now) e,
      ap (λ r. set_told r c.args.set.now) e,
    )
