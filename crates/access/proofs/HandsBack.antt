-- What the contracts of `Record::access`, `Item::access` and `Record::reach` tell of what they hand back, for every file and every record.
-- Assumes nothing.
use mathlib.Core.Path.{◌≡◌, refl, sym, ap, ◌∙◌, subst}
use lib.Dec.{T}
use mathlib.Core.Bool.{false}
use mathlib.Core.List.{[], ◌∷◌}
use Rattle.bits.proofs.Test.{by-test, chosen}
use Rattle.file.specs.declared.answer.Answer.TheVariants.{Malformed, NotSound}
use Rattle.file.specs.declared.registers.File.{File}
use Rattle.file.specs.Answers.{code_of, one_of, refused}
use Rattle.file.specs.Sound.{sound}
use Rattle.access.specs.declared.access.Accessed.{Accessed}
use Rattle.std.specs.Prelude.{Result, Ok, Err}
use Rattle.file.specs.declared.answer.Answer.{Answer}
use Rattle.file.specs.declared.effect.Reach.{Reach}
use Rattle.access.specs.declared.record.Record.{Record}
use Rattle.access.specs.declared.record.Item.{Item}
use Rattle.access.specs.declared.record.Item.TheVariants.{Whole, Fragment}
use Rattle.access.specs.Access.{access, access_item, reach, read_reach, answer_with, record_in, reply_to}
use Rattle.access.specs.Promises.{access_code}
use Rattle.access.proofs.Codes.{access-code}
use Rattle.access.proofs.Refusals.{refusal-leaves, unsound-answer}
use Rattle.access.proofs.Soundness.{access-sound}

module _ (whole : File) (asked : Record) (r : Accessed) (met : r ≡ access whole asked) where
  -- its code is one of the fixed list
  pub code-listed : T (access_code r.answer)
  unfolding access
  code-listed = subst (λ (x : Accessed). T (access_code x.answer)) (sym met) (access-code whole asked)

  -- a refusal hands back the file as given
  pub refusal-hands-back : T (refused r.answer) → r.file ≡ whole
  unfolding access
  refusal-hands-back t =
      ap (λ (x : Accessed). x.file) met
      ∙ refusal-leaves whole asked (subst (λ (x : Accessed). T (refused x.answer)) met t)

  -- a sound file is handed back sound
  pub sound-handed-back : T (sound whole) → T (sound r.file)
  sound-handed-back s = subst (λ (x : Accessed). T (sound x.file)) (sym met) (access-sound whole s asked)

  -- one that is not answers 12
  pub unsound-refused : sound whole ≡ false → r.answer ≡ NotSound
  unfolding access
  unsound-refused e = ap (λ (x : Accessed). x.answer) met ∙ unsound-answer whole asked e

-- of a fragment the code is 12 or 2
pub item-code : (f : File) (i : Item) → T (access_code (access_item f i).answer)
unfolding access_item access access_code
item-code f (Whole r) = access-code f r
item-code f (Fragment r) = chosen access_code (sound f) Malformed NotSound tt tt

-- what an access may reach is told with 0, or 12
pub reach-codes : (f : File) (r : Record) → T (one_of (0 ∷ 12 ∷ []) (answer_with (read_reach f r)))
unfolding read_reach answer_with one_of code_of
reach-codes f r = chosen (λ (x : Result Reach Answer). one_of (0 ∷ 12 ∷ []) (answer_with x)) (sound f) (Ok (reach f r)) (Err NotSound) tt tt

-- the refusal is 12
pub reach-unsound : (f : File) (r : Record) (a : Answer) → read_reach f r ≡ Err a → a ≡ NotSound
unfolding read_reach
reach-unsound f r a e = sym (ap refusal e) ∙ by-test (sound f) (λ s. rw s refl) (λ s. rw s refl)
  where
    refusal : Result Reach Answer → Answer
    refusal (Ok read) = NotSound
    refusal (Err told) = told

-- the reply handed back says the answer, of a whole record and of a fragment
pub reply-says : (f : File) (i : Item) → (access_item f i).reply ≡ reply_to (record_in i) (access_item f i).answer
unfolding access_item access record_in
reply-says f (Whole r) = refl
reply-says f (Fragment r) = refl
