-- A text that was asked for from the start of a buffer that is long enough stands there whole. Assumes nothing.
use Prim.Native.Nat.{ℕ, ◌+◌, ◌≤◌}
use mathlib.Core.List.{List, ◌++◌}
use mathlib.Core.Path.{◌≡◌, sym, ap, ◌∙◌}
use native.Mathlib.Nat.{zero-add}
use native.Mathlib.Omega.{arith}
use borrow.Author.Tests.{le-leb}
use lib.ListN.{length, drop, length-append, length-take}
use Rattle.io.specs.Counts.{IsPrefixLen}
use Rattle.file.specs.declared.answer.Answer.TheVariants.{Done}
use Rattle.file.specs.Answers.{code_of, refused}
use Rattle.text.specs.declared.placed.Placed.{Placed}
use Rattle.text.specs.Lent.{Lined, behind_by, fits, placed_by, room_answer}

module _ (text before after : List ℕ) (room : length text ≤ length before) (r : Placed) (lined : Lined (room_answer before 0 text) 0 text before after r) where
  said : Lined (Done 0) 0 text before after r
  unfolding room_answer fits
  said = rw (le-leb (0 + length text) (length before) (omega (arith, room))) at lined

  ended : r.end ≡ length text
  unfolding behind_by refused code_of
  ended = said.ended ∙ zero-add _

  stored : after ≡ text ++ drop r.end before
  unfolding placed_by behind_by refused code_of
  stored = said.bytes ∙ ap (λ (k : ℕ). text ++ drop k before) (sym said.ended)

  long : r.end ≤ length after
  long = omega (arith, ended, ap length stored ∙ length-append text (drop r.end before))

  pub stands : IsPrefixLen r.end after × ((r.end ≡ length text) × (after ≡ text ++ drop r.end before))
  stands = ((long, rw length-take (omega (arith, long))), (ended, stored))

-- the same text by another name
pub lined-as : (at : ℕ) (text same before after : List ℕ) (r : Placed) → text ≡ same → Lined (room_answer before at text) at text before after r
    → Lined (room_answer before at same) at same before after r
lined-as at text same before after r e lined = rw e at lined
