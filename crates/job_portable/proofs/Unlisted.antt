-- Where the numbers of a list are not written nothing is put out, so of a text that is no list too. Assumes nothing.
use Rattle.std.specs.Prelude.{Option, Some, None, Result, Ok, Err}
use Prim.Native.Nat.{ℕ}
use mathlib.Core.List.{List}
use mathlib.Core.Path.{◌≡◌, refl, sym, ◌∙◌}
use lib.ListN.{length}
use Rattle.bits.proofs.Test.{by-test}
use Rattle.file.specs.Answers.{refused}
use Rattle.portable.specs.declared.Timing.{Timing}
use Rattle.portable.specs.Timing.{bytes_after}
use Rattle.portable_text.specs.declared.writing.NotWritten.{NotWritten}
use Rattle.portable_text.specs.Numbers.{listed_in}
use Rattle.job_portable.specs.Ended.{NumbersEnded, numbers_result, numbers_stored, with_answer}

nothing-by : (bytes out₀ : List ℕ) (o : Option Timing) (why : NotWritten) → numbers_result bytes o out₀ ≡ Err why → numbers_stored bytes o out₀ ≡ out₀
unfolding numbers_result numbers_stored
nothing-by bytes out₀ None why e = refl
nothing-by bytes out₀ (Some t) why e =
    by-test (refused (with_answer bytes t out₀)) (λ h. rw h refl)
    (λ h. let never : ◌≡◌ {A = Result ℕ NotWritten} (Ok (length (bytes_after bytes t))) (Err why) = rw h at e in absurd (cc))

pub unlisted-nothing : (bytes list out₀ out : List ℕ) (r : Result ℕ NotWritten) (why : NotWritten) → NumbersEnded bytes list out₀ out r → r ≡ Err why → out ≡ out₀
unlisted-nothing bytes list out₀ out r why ended e = ended.stored ∙ nothing-by bytes out₀ (listed_in list) why (sym ended.answered ∙ e)
