-- What is read of a file, by whether it may be looked into. Assumes nothing.
use Prim.Native.Nat.{ℕ}
use denote.Ref.{Bor}
use mathlib.Core.Bool.{cond}
use mathlib.Core.Path.{◌≡◌, refl, sym, ap, ◌∙◌}
use mathlib.Core.List.{List, map}
use native.Mathlib.Omega.{arith}
use borrow.Author.Tests.{ltb-false}
use lib.Dec.{ltb}
use lib.ListN.{length}
use Rattle.std.specs.Prelude.{Option, Some, None, Result, Ok, Err, ok_or, option_map, slice_get}
use Rattle.std.specs.Result.{result_ok}
use Rattle.std.proofs.lemmas.Option.{slice_get-map, slice_get_past}
use Rattle.bits.proofs.Test.{by-test}
use Rattle.file.specs.declared.answer.Answer.{Answer}
use Rattle.file.specs.declared.answer.Answer.TheVariants.{NoRegister, NotSound}
use Rattle.file.specs.declared.registers.File.{File}
use Rattle.file.specs.Readers.{number_of, if_sound, read_register, read_named, read_number}
use Rattle.file.specs.Registers.{register_count}
use Rattle.file.specs.Sound.{sound}
use Rattle.file.proofs.NameBytes.{names-counted}

abbrev look : File → Result (Unit {0}) Answer
look f = if_sound f (Ok tt)

-- what refuses the look refuses what would be told
pub refused-look : {A : Type 0} (f : File) (told : Result A Answer) (e : Answer) → Err e ≡ look f → Err e ≡ if_sound f told
unfolding if_sound
refused-look f told e h =
    by-test (sound f) (λ s. let z : Err e ≡ Ok tt = rw s at h in cc) (λ s. let z : ◌≡◌ {A = Result (Unit {0}) Answer} (Err e) (Err NotSound) = rw s at h in rw s cc)

-- what may be looked into is told
pub looked : {A : Type 0} (f : File) (told : Result A Answer) → Ok tt ≡ look f → told ≡ if_sound f told
unfolding if_sound
looked f told h = by-test (sound f) (λ s. rw s refl) (λ s. let z : Ok tt ≡ Err NotSound = rw s at h in cc)

-- what is told of a list of texts, where there is one, is the text
pub told-one : {E : Type 0} (texts : List (Bor (List ℕ))) (n : ℕ) (e : E) (r : Result (Bor (List ℕ)) E) (o : Option (Bor (List ℕ)))
    → o ≡ result_ok r → r ≡ ok_or (slice_get texts n) e → option_map (λ own. own.now) o ≡ slice_get (map (λ own. own.now) texts) n
told-one texts n e r o h k = rw (h, k) (by-one (slice_get texts n)) ∙ sym (slice_get-map (λ own. own.now) texts n)
  where
    by-one : (found : Option (Bor (List ℕ))) → option_map (λ own. own.now) (result_ok (ok_or found e)) ≡ option_map (λ own. own.now) found
    by-one None = refl
    by-one (Some text) = refl

-- a number by its name, in the words of the search
number-by : (name : List ℕ) → read_number name ≡ ok_or (cond (ltb (number_of name) register_count) (Some (number_of name)) None) NoRegister
unfolding read_number number_of
number-by name = ap (λ (n : ℕ). ok_or (cond (ltb (number_of name) n) (Some (number_of name)) None) NoRegister) names-counted

-- the number that is told of a name is the name's
pub named-found : (name : List ℕ) (n : ℕ) → Ok n ≡ read_number name → n ≡ number_of name
named-found name n h =
    by-test (ltb (number_of name) register_count)
    (λ s. let z : ◌≡◌ {A = Result ℕ Answer} (Ok n) (Ok (number_of name)) = h ∙ number-by name ∙ rw s refl in cc)
    (λ s. let z : ◌≡◌ {A = Result ℕ Answer} (Ok n) (Err NoRegister) = h ∙ number-by name ∙ rw s refl in cc)

-- and where none is told, no register of a sound file has the name
pub named-absent : (f : File) (name : List ℕ) (e : Answer) → length f.registers ≡ register_count → Err e ≡ read_number name → Ok tt ≡ look f
    → Err e ≡ read_named f name
unfolding read_named read_register
named-absent f name e regs h s =
    by-test (ltb (number_of name) register_count)
    (λ t. let z : ◌≡◌ {A = Result ℕ Answer} (Err e) (Ok (number_of name)) = h ∙ number-by name ∙ rw t refl in cc)
    (λ t. (h ∙ number-by name ∙ rw t refl)
    ∙ ap (λ (o : Option ℕ). ok_or o NoRegister) (sym (slice_get_past f.registers (number_of name) (omega (arith, regs, ltb-false (number_of name) register_count t))))
    ∙ looked f (ok_or (slice_get f.registers (number_of name)) NoRegister) s)
