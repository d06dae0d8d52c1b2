-- Text of so many bytes at most, in a lent buffer. Assumes nothing.
use Prim.Native.Nat.{ℕ, ◌+◌, ◌≤◌}
use mathlib.Core.Bool.{true, false}
use mathlib.Core.List.{List}
use mathlib.Core.Path.{◌≡◌, refl}
use native.Mathlib.Omega.{arith}
use borrow.Author.Tests.{le-leb, leb-true}
use lib.Dec.{leb}
use lib.ListN.{length}
use Rattle.file.specs.declared.answer.Answer.TheVariants.{Done, ShortBuffer}
use Rattle.file.specs.Answers.{code_of, refused}
use Rattle.text.specs.declared.placed.Placed.{Placed}
use Rattle.text.specs.Lent.{Lined, Wrote}
use Rattle.text.proofs.Stores.{unplaced, whole, wrote}
use Rattle.explaining.specs.Lines.{most_answer}

module _ (buffer : List ℕ) (at most : ℕ) (text : List ℕ) where
  -- fewer bytes than it may have
  pub unlined : leb (at + most) (length buffer) ≡ false → Lined (most_answer most buffer at) at text buffer buffer (record { answer = ShortBuffer; end = at })
  unfolding most_answer refused code_of
  unlined e = unplaced buffer at text ShortBuffer (rw e refl) refl

  -- enough
  pub lined : leb (at + most) (length buffer) ≡ true → (stored : List ℕ) → stored ≡ text → (after : List ℕ) (end : ℕ)
      → Wrote buffer at stored after end → end ≤ at + most
      → Lined (most_answer most buffer at) at text buffer after (record { answer = Done 0; end = end })
  unfolding most_answer
  lined e stored same after end put near =
      whole buffer at text (rw e refl) (omega (arith, leb-true (at + most) (length buffer) e, near, (rw same at put).place)) (rw same at put)

  -- and back: with room for it, it was stored
  pub had-most : at + most ≤ length buffer → length text ≤ most → (after : List ℕ) (r : Placed) → Lined (most_answer most buffer at) at text buffer after r
      → Wrote buffer at text after r.end
  unfolding most_answer
  had-most h short after r l = wrote buffer at text (rw (le-leb (at + most) (length buffer) h) refl) (omega (arith, h, short)) l
