-- However an input is cut into parts, what is put out of them is what is put out of the whole, and the job is the one after the whole. Assumes nothing.
use Prim.Native.Nat.{ℕ}
use mathlib.Core.List.{List, ◌++◌}
use mathlib.Core.Path.{◌≡◌, sym, ap, ap₂, ◌∙◌}
use Rattle.feeding.specs.Feeding.{Additive, Parts, WholeInput}
use Rattle.feeding.specs.Feeding.Parts.{none, then}
use Rattle.feeding.specs.Feeding.WholeInput.{ending}

module _ {Job : Type 0} {Whole : List ℕ → Type 0} {after : Job → List ℕ → Job} {told : Job → List ℕ → List ℕ} (additive : Additive Whole after told)
    {start : Job} where
  -- parts of whole units are whole units
  pub parts_whole : {bytes text : List ℕ} {job : Job} → Parts Whole after told start bytes text job → Whole bytes
  parts_whole none = additive.whole-none
  parts_whole (then {bytes} part parts whole) = additive.whole_parts bytes part (parts_whole parts) whole

  pub parts-after : {bytes text : List ℕ} {job : Job} → Parts Whole after told start bytes text job → job ≡ after start bytes
  parts-after none = sym (additive.after_none start)
  parts-after (then {bytes} part parts whole) =
      ap (λ (j : Job). after j part) (parts-after parts) ∙ sym (additive.after-parts start bytes part (parts_whole parts))

  pub parts-told : {bytes text : List ℕ} {job : Job} → Parts Whole after told start bytes text job → text ≡ told start bytes
  parts-told none = sym (additive.told_none start)
  parts-told (then {bytes} part parts whole) =
      ap₂ (λ (t : List ℕ) (j : Job). t ++ told j part) (parts-told parts) (parts-after parts)
      ∙ sym (additive.told-parts start bytes part (parts_whole parts))

  -- the last part behind them may end in a fragment
  pub input-after : {bytes text : List ℕ} {job : Job} → WholeInput Whole after told start bytes text job → job ≡ after start bytes
  input-after (ending {bytes} last parts) =
      ap (λ (j : Job). after j last) (parts-after parts) ∙ sym (additive.after-parts start bytes last (parts_whole parts))

  pub input-told : {bytes text : List ℕ} {job : Job} → WholeInput Whole after told start bytes text job → text ≡ told start bytes
  input-told (ending {bytes} last parts) =
      ap₂ (λ (t : List ℕ) (j : Job). t ++ told j last) (parts-told parts) (parts-after parts)
      ∙ sym (additive.told-parts start bytes last (parts_whole parts))
