-- `write_attribute` meets its contract. Assumes nothing.
use Prim.Native.Nat.{ℕ}
use mathlib.Core.List.{List}
use mathlib.Core.Path.{refl, sym, ap, ◌∙◌}
use native.Mathlib.Omega.{arith}
use lib.ListN.{get_or, set}
use Rattle.file.specs.declared.answer.Answer.TheVariants.{Done, NoRegister}
use Rattle.file.specs.Answers.{code_of, value_of}
use Rattle.quick.specs.Smalls.{smalls_of}
use Rattle.quick.proofs.Parts.{says}
use Rattle.quick.proofs.RegistersStored.{coded-other, is-off, is-on, index-written, data-written, none_written}
use Rattle.quick.proofs.PlainPlaces.{kept-codes}
use Rattle.quick.proofs.stores.write_attribute.Goals as goal

pub returns-then-smalls-ne1 : goal.returns-then-smalls-ne1
unfolding code_of value_of smalls_of
returns-then-smalls-ne1 c =
    λ free. (
      λ s e.
          index-written _ _ s _ _ _ _ c.told.result (is-off s.toggle (λ z. c.if-smalls-ne1.true (ap (λ (l : List ℕ). get_or l 6 0) e ∙ z))) (says (Done 0) c.told.ensures refl refl) c.store_in.ensures (ap (λ (l : List ℕ). set l 6 1) e),
      coded-other _ 4 _ _ (λ n. absurd (let never : ⊥ = omega (arith, n) in never)) (λ n. absurd (let never : ⊥ = omega (arith, n) in never)) c.store_in.ensures,
    )

pub returns-then-number-lt-REGISTERS : goal.returns-then-number-lt-REGISTERS
unfolding code_of value_of smalls_of
returns-then-number-lt-REGISTERS c =
    λ free.
    let there = c.behind-number.ensures in
    let left = rw there at c.store_in-then-number-lt-REGISTERS.ensures in (
      λ s e.
          data-written _ _ s _ _ free (is-on s.toggle (sym (ap (λ (l : List ℕ). get_or l 6 0) e) ∙ c.if-smalls-ne1.false)) _ _ c.told-then-number-lt-REGISTERS.result (rw there at c.if-number-lt-REGISTERS.true) (says (Done 0) c.told-then-number-lt-REGISTERS.ensures refl refl) left (ap (λ (l : List ℕ). set l 6 0) e),
      coded-other _ _ _ _ (λ n. absurd (let never : ⊥ = omega (arith, n, free) in never)) (λ n. absurd (let never : ⊥ = omega (arith, n, free) in never)) left,
    )

pub returns : goal.returns
unfolding code_of value_of smalls_of
returns c =
    λ free.
    let there = c.behind-number.ensures in (
      λ s e.
          none_written _ _ s _ _ free (is-on s.toggle (sym (ap (λ (l : List ℕ). get_or l 6 0) e) ∙ c.if-smalls-ne1.false)) _ c.told-2.result (rw there at c.if-number-lt-REGISTERS.false) (says NoRegister c.told-2.ensures refl refl) (ap (λ (l : List ℕ). set l 6 0) e),
      kept-codes _,
    )
