-- `write_free` meets its contract. Assumes nothing.
use mathlib.Core.Path.{refl}
use native.Mathlib.Omega.{arith}
use Rattle.file.specs.declared.answer.Answer.TheVariants.{Done}
use Rattle.file.specs.Answers.{code_of, value_of}
use Rattle.quick.proofs.Parts.{says}
use Rattle.quick.proofs.RegistersStored.{above-lock, other-reach, table-stored, coded-other}
use Rattle.quick.proofs.stores.write_free.Goals as goal

pub returns : goal.returns
unfolding code_of value_of
returns c =
    let number = c.args.number in
    let high = c.requires.0 in (
      table-stored _ _ number _ _ _ (above-lock _ number (omega (arith, high))) (other-reach _ _ number (λ n. absurd (let never : ⊥ = omega (arith, n, high) in never))) (says (Done 0) c.told.ensures refl refl) c.store_in.ensures,
      coded-other _ number _ _ (λ n. absurd (let never : ⊥ = omega (arith, n, high) in never)) (λ n. absurd (let never : ⊥ = omega (arith, n, high) in never)) c.store_in.ensures,
    )
