use Prim.Native.Nat.{ℕ}
use mathlib.Core.Path.{◌≡◌, refl, sym, ap, ◌∙◌}
use mathlib.Core.Bool.{Bool, true, false}
use mathlib.Core.List.{List}
use lib.ListN.{set, drop_of_length-le}
use Rattle.std.proofs.lemmas.List.{at_drop_more}
use Rattle.file.specs.Names.{CR1A}
use Rattle.touched.specs.Noted.{noted_all}
use Rattle.touched.proofs.MarkedRegisters.{set_all, marked}
use Rattle.touched.proofs.SetIsSet.{is-set}
use Rattle.noting.specs.Noting.{timing_reaches}
use Rattle.noting.proofs.TimingMarked.{timed, timing-marked}
use Rattle.noting.proofs.writing.with_timing.Goals as goal
use Rattle.noting.proofs.writing.with_timing.Goals.{then-wide, else-wide}

pub loop-number-init : goal.loop-number-init
loop-number-init c = refl

pub loop-number-preserved : goal.loop-number-preserved
unfolding set_all
loop-number-preserved c =
    let here = c.loop-number in
    sym (at_drop_more (λ (ns : List ℕ). set_all ns here.registers) _ here.number-index 0 c.loop-number-test.true) ∙ here.invariant

pub returns : goal.returns
unfolding set_all marked timed
returns c =
    let s = c.args.touched in
    let here = c.loop-number in
    let base : here.registers ≡ set_all (timed false) s.registers =
    ap (λ (ns : List ℕ). set_all ns here.registers) (sym (drop_of_length-le _ c.loop-number-test.false)) ∙ here.invariant in
    elim c.if-wide.branch [
      | then-wide w ↦
          ap (λ (registers : List Bool). record { registers = registers; palette = s.palette; bank = s.bank; pointer = s.pointer; marks = s.marks; toggle = s.toggle })
          (w.registers-is ∙ ap (λ (registers : List Bool). set registers CR1A true) base)
          ∙ timing-marked true s (is-set s _ c.well_formed.0)
          ∙ sym (ap (λ (wide : Bool). noted_all (timing_reaches wide) s) w.if-wide.true)
      | else-wide w ↦
          ap (λ (registers : List Bool). record { registers = registers; palette = s.palette; bank = s.bank; pointer = s.pointer; marks = s.marks; toggle = s.toggle })
          (w.registers-is ∙ base)
          ∙ timing-marked false s (is-set s _ c.well_formed.0)
          ∙ sym (ap (λ (wide : Bool). noted_all (timing_reaches wide) s) w.if-wide.false)
    ]
