-- `held` meets its contract. Assumes nothing.
use Prim.Native.Nat.{ℕ}
use mathlib.Core.Path.{◌≡◌, ◌∙◌}
use mathlib.Core.List.{List}
use Rattle.file.specs.declared.palette.Colour.{Colour}
use Rattle.file.specs.declared.registers.File.{File}
use Rattle.file.specs.declared.state.State.{State}
use Rattle.image.specs.Parts.{held_in}
use native.Mathlib.Omega.{arith}
use lib.ListN.{take, drop, length-drop}
use lib.Seq.{length-take-le}
use Rattle.image.specs.Bytes.{colours_in}
use Rattle.image.proofs.Filling.{all-stored, colours-in-count}
use Rattle.image.proofs.parts.held.Goals as goal

together : (registers : List ℕ) {palette palette' bank bank' : List Colour} {state state' : State} → palette ≡ palette' → bank ≡ bank' → state ≡ state'
    → ◌≡◌ {A = File} (record { registers = registers; palette = palette; bank = bank; state = state }) (record { registers = registers; palette = palette'; bank = bank'; state = state' })
together registers p b s = λ i. record { registers = registers; palette = p i; bank = b i; state = s i }

pub returns : goal.returns
unfolding held_in
returns c =
    let rest = c.args.rest in
    let long = c.well_formed.1.0.1.0.1 in
    together c.args.registers
    (c.colours_in.ensures ∙ all-stored (colours_in (take 768 (drop 10 rest))) _ (colours-in-count 256 (take 768 (drop 10 rest)) (length-take-le 768 (drop 10 rest) (simp length-drop (omega (arith, long))))))
    (c.colours_in-2.ensures ∙ all-stored (colours_in (take 48 (drop 778 rest))) _ (colours-in-count 16 (take 48 (drop 778 rest)) (length-take-le 48 (drop 778 rest) (simp length-drop (omega (arith, long))))))
    c.state_in.ensures
