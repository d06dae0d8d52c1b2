-- Three lines one after the other in a buffer that has room for them. Assumes nothing.
use Prim.Native.Nat.{ℕ, ◌+◌, ◌≤◌, ◌<◌}
use mathlib.Core.Bool.{Bool}
use mathlib.Core.List.{List, ◌++◌}
use mathlib.Core.Path.{◌≡◌, refl, ap, ◌∙◌}
use native.Mathlib.Omega.{arith}
use borrow.Author.Tests.{le-leb, lt-leb}
use lib.ListN.{length}
use lib.Seq.{length-sets}
use Rattle.file.specs.declared.answer.Answer.TheVariants.{Done, ShortBuffer}
use Rattle.file.specs.Answers.{code_of, refused}
use Rattle.text.specs.declared.placed.Placed.{Placed}
use Rattle.text.specs.Lent.{Lined, Wrote, room_answer}
use Rattle.text.specs.Text.{cursor_line}
use Rattle.text.proofs.Stores.{had-room, then-text, unplaced, whole}
use Rattle.job_geometry.specs.GeometryText.{geometry_answer, geometry_most}

-- a cursor's line by the parts that make it
pub same-cursor : {left left' top top' : Bool} {ns ns' : List ℕ} → left ≡ left' → top ≡ top' → ns ≡ ns' → cursor_line left top ns ≡ cursor_line left' top' ns'
same-cursor across down numbers = λ i. cursor_line (across i) (down i) (numbers i)

pub three-put : (a b c out₀ out₁ out₂ out₃ : List ℕ) (p q r : Placed) → length a + (length b + length c) ≤ length out₀
    → Lined (room_answer out₀ 0 a) 0 a out₀ out₁ p → Lined (room_answer out₁ p.end b) p.end b out₁ out₂ q
    → Lined (room_answer out₂ q.end c) q.end c out₂ out₃ r → Wrote out₀ 0 (a ++ b ++ c) out₃ r.end
three-put a b c out₀ out₁ out₂ out₃ p q r room first second third =
    let one = had-room (omega (arith, room)) first in
    let long₁ : length out₁ ≡ length out₀ = ap length one.bytes ∙ length-sets out₀ 0 a in
    let two = had-room (omega (arith, room, long₁, one.place)) second in
    let long₂ : length out₂ ≡ length out₁ = ap length two.bytes ∙ length-sets out₁ p.end b in
    let three = had-room (omega (arith, room, long₁, long₂, one.place, two.place)) third in
    then-text (then-text one two) three

module _ (text out : List ℕ) where
  pub lines-refused : length out < 256 → Lined (geometry_answer out) 0 text out out (record { answer = ShortBuffer; end = 0 })
  unfolding geometry_answer geometry_most refused code_of
  lines-refused short = unplaced out 0 text ShortBuffer (rw (lt-leb 256 (length out) short) refl) refl

  pub lines-placed : 256 ≤ length out → length text ≤ geometry_most → {after : List ℕ} {end : ℕ} → Wrote out 0 text after end
      → Lined (geometry_answer out) 0 text out after (record { answer = Done 0; end = end })
  unfolding geometry_answer geometry_most
  lines-placed room few wrote = whole out 0 text (rw (le-leb 256 (length out) room) refl) (omega (arith, room, few)) wrote
