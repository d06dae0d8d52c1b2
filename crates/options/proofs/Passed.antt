-- The words are read on from the bytes that are left. Assumes nothing.
use Rattle.std.proofs.Common.{◌≡◌, ℕ, ◌+◌, ◌-◌, ◌≤◌, ◌<◌, true, eqb, List, [], ◌∷◌, length, drop, get_or, Ok, Err, refl, arith, add-one, drop-cons}
use borrow.Author.Tests.{eq-eqb, ne_eqb}
use lib.ListN.{drop_of_length-le}
use Rattle.options.specs.declared.types.Reading.{Reading}
use Rattle.options.specs.declared.types.Refused.{Refused}
use Rattle.options.specs.declared.types.Span.{Span}
use Rattle.options.specs.Words.{span, words_from}
use Rattle.options.specs.Steps.{stepped}
use Rattle.options.specs.Asking.{folded}

pub none-whole : (words : List ℕ) → length words ≡ 0 → true ≡ eqb (get_or words (length words - 1) 0) 0
none-whole [] e = refl
none-whole (b ∷ bs) e = absurd (omega (arith, e))

-- after a wrong word no other is read
pub folded-wrong : (words : List ℕ) (e : Refused) (more : List Span) → folded words (Err e) more ≡ Err e
unfolding folded
folded-wrong words e [] = refl
folded-wrong words e (s ∷ more) = refl

module _ (words : List ℕ) (r : Reading) (start at : ℕ) where
  -- a byte of a word
  pub passed-byte : at < length words → (get_or words at 0 ≡ 0 → ⊥)
      → folded words (Ok r) (words_from start (at + 1) (drop (at + 1) words)) ≡ folded words (Ok r) (words_from start at (drop at words))
  unfolding words_from
  passed-byte h n = rw (drop-cons words at 0 h, ne_eqb _ _ n, add-one) refl

  -- the byte that ends one
  pub passed-word : at < length words → get_or words at 0 ≡ 0
      → folded words (stepped words r (span start at)) (words_from (at + 1) (at + 1) (drop (at + 1) words)) ≡ folded words (Ok r) (words_from start at (drop at words))
  unfolding words_from folded
  passed-word h e = rw (drop-cons words at 0 h, eq-eqb _ _ e, add-one) refl

  -- after the last there is none
  pub none_passed : length words ≤ at → folded words (Ok r) (words_from start at (drop at words)) ≡ Ok r
  unfolding words_from folded
  none_passed h = rw (drop_of_length-le words h) refl
