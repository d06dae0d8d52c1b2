-- `is_refused` meets its contract. Assumes nothing.
use Prim.Native.Nat.{ℕ}
use mathlib.Core.Path.{◌≡◌, refl}
use mathlib.Core.Bool.{true}
use mathlib.Core.Logic.{inl, inr}
use Rattle.file.specs.declared.answer.Answer.{Answer}
use Rattle.file.specs.declared.answer.Answer.TheVariants.{Done, NoRegister, Malformed, SpaceOff, NotHeld, OtherHalf, WrongWidth, ReadOnly, Locked, PaletteDown, OutOfRange, ShortBuffer, NotSound, NotBeforeRed, OtherChip, OtherDirection, InsideWider}
use Rattle.file.specs.Answers.{code_of, refused}
use Rattle.host.proofs.is_refused.Goals as goal

others : (a : Answer) → ((x : ℕ) → a ≡ Done x → ⊥) → (a ≡ NoRegister → ⊥) → true ≡ refused a
unfolding refused code_of
others (Done x) d n = absurd (d x refl)
others NoRegister d n = absurd (n refl)
others Malformed d n = refl
others SpaceOff d n = refl
others NotHeld d n = refl
others OtherHalf d n = refl
others WrongWidth d n = refl
others ReadOnly d n = refl
others Locked d n = refl
others PaletteDown d n = refl
others OutOfRange d n = refl
others ShortBuffer d n = refl
others NotSound d n = refl
others NotBeforeRed d n = refl
others OtherChip d n = refl
others OtherDirection d n = refl
others InsideWider d n = refl

pub returns-in-Done : goal.returns-in-Done
unfolding refused code_of
returns-in-Done c = elim c.in-Done.is [ inl d ↦ rw d.1 refl | inr n ↦ rw n refl ]

pub returns-in_default : goal.returns-in_default
returns-in_default c = others c.args.answer c.in_default.not-Done c.in_default.not-NoRegister
