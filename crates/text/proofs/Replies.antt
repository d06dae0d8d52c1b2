-- The lines of replies: one after the other, and how long they are at most. Assumes nothing.
use Prim.Native.Nat.{ℕ, zero, suc, ◌+◌, ◌-◌, ◌*◌, ◌≤◌, ◌<◌}
use mathlib.Core.Path.{◌≡◌, sym, ap, ap₂, ◌∙◌}
use mathlib.Core.List.{List, [], ◌++◌}
use native.Mathlib.Nat.{add-zero, add_assoc, sub-zero}
use native.Mathlib.Omega.{arith}
use lib.ListN.{length, get_or, drop, length-append}
use lib.Seq.{drop-drop, get_or-drop}
use Rattle.trace.specs.Records.{two}
use Rattle.text.specs.Text.{line_of, reply_lines}
use Rattle.text.proofs.Lines.{line-most}

module _ (replies : List ℕ) (from : ℕ) where
  code-there : get_or (drop from replies) 0 0 ≡ get_or replies from 0
  code-there = get_or-drop from replies 0 0 ∙ ap (λ (n : ℕ). get_or replies n 0) (add-zero from)

  value_there : two (drop from replies) 4 ≡ two replies (from + 4)
  unfolding two
  value_there =
      ap₂ (λ (x y : ℕ). x + 256 * y) (get_or-drop from replies 4 0)
      (get_or-drop from replies 5 0 ∙ ap (λ (n : ℕ). get_or replies n 0) (sym (add_assoc from 4 1)))

  -- the value by its two bytes
  pub value-bytes : get_or replies (from + 4) 0 + 256 * get_or replies (from + 5) 0 ≡ two replies (from + 4)
  unfolding two
  value-bytes = ap (λ (n : ℕ). get_or replies (from + 4) 0 + 256 * get_or replies n 0) (sym (add_assoc from 4 1))

pub all_lines : (count number : ℕ) (replies : List ℕ) → reply_lines (count - 0) (number + 0) (drop (8 * 0) replies) ≡ reply_lines count number replies
all_lines count number replies = rw (sub-zero, add-zero)

module _ (count number : ℕ) (replies : List ℕ) (n : ℕ) (h : n < count) where
  -- the line of the next reply, and the rest
  pub next-line : line_of (number + n) (get_or replies (8 * n) 0) (two replies (8 * n + 4))
      ++ reply_lines (count - (n + 1)) (number + (n + 1)) (drop (8 * (n + 1)) replies)
      ≡ reply_lines (count - n) (number + n) (drop (8 * n) replies)
  unfolding reply_lines
  next-line =
      let less : count - n ≡ suc (count - (n + 1)) = omega arith in
      let up : number + (n + 1) ≡ suc (number + n) = omega arith in
      let on : 8 * (n + 1) ≡ 8 * n + 8 = omega arith in
      rw (less, up, on, drop-drop, code-there, value_there)

  pub next-line-length : length (line_of (number + n) (get_or replies (8 * n) 0) (two replies (8 * n + 4)))
      + length (reply_lines (count - (n + 1)) (number + (n + 1)) (drop (8 * (n + 1)) replies))
      ≡ length (reply_lines (count - n) (number + n) (drop (8 * n) replies))
  next-line-length = rw (← next-line, length-append)

-- behind the last reply there is no line
pub no-line-left : (count number : ℕ) (replies : List ℕ) (n : ℕ) → count ≤ n → reply_lines (count - n) number replies ≡ []
unfolding reply_lines
no-line-left count number replies n h = let none : count - n ≡ 0 = omega arith in rw none

-- a line has at most 30 bytes: a number of 64 bits has 20 digits, a code of 8 bits three
pub lines-most : (count number : ℕ) (replies : List ℕ) → number + count ≤ 18446744073709551616 → ((k : ℕ) → get_or replies k 0 < 256)
    → length (reply_lines count number replies) ≤ 30 * count
unfolding reply_lines
lines-most zero number replies low bytes = omega arith
lines-most (suc count) number replies low bytes =
    let one = line-most number (get_or replies 0 0) (two replies 4) (omega arith) (bytes 0) in
    let rest = lines-most count (suc number) (drop 8 replies) (omega arith) (λ k. rw get_or-drop (bytes (8 + k))) in
    rw length-append (omega arith)
