-- `write_low` meets its contract. Assumes nothing.
use mathlib.Core.Path.{refl, sym}
use native.Mathlib.Omega.{arith}
use Rattle.file.specs.declared.answer.Answer.TheVariants.{Done}
use Rattle.file.specs.Answers.{code_of, value_of}
use Rattle.quick.proofs.Parts.{says}
use Rattle.quick.proofs.RegistersStored.{below-lock, other-reach, table-stored, coded-other}
use Rattle.quick.specs.Turned.{Coded}
use Rattle.quick.proofs.stores.write_low.Goals as goal

pub returns-then-number-eq-PCI04 : goal.returns-then-number-eq-PCI04
unfolding code_of value_of Coded
returns-then-number-eq-PCI04 c = (table-stored _ _ c.args.number _ _ _ (below-lock _ c.args.number c.requires) (other-reach _ _ c.args.number (λ n. absurd (let never : ⊥ = omega (arith, n, c.requires) in never))) (says (Done 0) c.told.ensures refl refl) c.store_in.ensures, λ h. c.codes_of.ensures)

pub returns : goal.returns
unfolding code_of value_of
returns c = (table-stored _ _ c.args.number _ _ _ (below-lock _ c.args.number c.requires) (other-reach _ _ c.args.number (λ n. absurd (let never : ⊥ = omega (arith, n, c.requires) in never))) (says (Done 0) c.told-2.ensures refl refl) c.store_in.ensures, coded-other _ c.args.number _ _ (λ n. c.if-number-eq-PCI04.false (sym n)) (λ n. c.if-number-eq-MISC.false (sym n)) c.store_in.ensures _)
