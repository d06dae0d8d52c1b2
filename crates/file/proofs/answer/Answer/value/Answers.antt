-- `Answer::value` meets its contract: only `Done` has a value. Assumes nothing.
use Prim.Native.Nat.{ℕ}
use mathlib.Core.Path.{◌≡◌, refl}
use Rattle.file.specs.declared.answer.Answer.{Answer}
use Rattle.file.specs.declared.answer.Answer.TheVariants.{Done, NoRegister, Malformed, SpaceOff, NotHeld, OtherHalf, WrongWidth, ReadOnly, Locked, PaletteDown, OutOfRange, ShortBuffer, NotSound, NotBeforeRed, OtherChip, OtherDirection, InsideWider}
use Rattle.file.specs.Answers.{value_of}
use Rattle.file.proofs.answer.Answer.value.Goals as goal

no_value : (a : Answer) → ((x : ℕ) → a ≡ Done x → ⊥) → 0 ≡ value_of a
unfolding value_of
no_value (Done value) k = absurd (k value refl)
no_value NoRegister k = refl
no_value Malformed k = refl
no_value SpaceOff k = refl
no_value NotHeld k = refl
no_value OtherHalf k = refl
no_value WrongWidth k = refl
no_value ReadOnly k = refl
no_value Locked k = refl
no_value PaletteDown k = refl
no_value OutOfRange k = refl
no_value ShortBuffer k = refl
no_value NotSound k = refl
no_value NotBeforeRed k = refl
no_value OtherChip k = refl
no_value OtherDirection k = refl
no_value InsideWider k = refl

pub returns-in-Done : goal.returns-in-Done
unfolding value_of
returns-in-Done c = rw c.in-Done.is

pub returns-in_default : goal.returns-in_default
returns-in_default c = no_value c.args.self c.in_default.not-Done
