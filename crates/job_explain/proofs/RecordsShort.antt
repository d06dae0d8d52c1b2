-- What is told of a record has so many bytes at most, since a line has: every line has room for 159, and a newline. Assumes nothing.
use Prim.Native.Nat.{ℕ, zero, suc, ◌*◌, ◌≤◌, ◌-◌}
use mathlib.Core.Bool.{Bool, true, false, cond}
use mathlib.Core.List.{List, [], ◌∷◌}
use mathlib.Core.Path.{◌≡◌, refl, ◌∙◌}
use native.Mathlib.Omega.{arith}
use lib.Dec.{eqb, ltb}
use lib.ListN.{length, length-append, length-replicate, length-set}
use Rattle.bits.proofs.Test.{by-test}
use Rattle.file.specs.declared.registers.File.{File}
use Rattle.access.specs.declared.record.Item.{Item}
use Rattle.explaining.specs.declared.explain.Case.{Case}
use Rattle.explaining.specs.declared.token.Token.{Token}
use Rattle.explaining.specs.Explained.{beam_line, case_of, changed, entry_line, explained, first_line, head_line, line_at, line_count, marks_line}
use Rattle.explaining.specs.Explained.{number_line, part_line, pointer_line, record_most, register_part, toggle_line}
use Rattle.text.specs.Fixed.{behind, byte_behind}
use Rattle.explaining.specs.Lines.{Line, blank, line_most, line_room, lines_of}
use Rattle.explaining.proofs.PutLines.{line-short}
use Rattle.summing.specs.Told.{record_told}
use Rattle.summing.specs.Together.{moved_at, moved_line, moved_together, together, together_count, together_line, together_most, together_text}

-- a line's bytes
pub record Roomy (l : Line) : Type 0 where
  pub size : length l.bytes ≡ line_most

byte-size : (l : Line) (b : ℕ) → length (byte_behind l b).bytes ≡ length l.bytes
unfolding byte_behind
byte-size l b = by-test (ltb l.end line_most) (λ e. rw (e, length-set) refl) (λ e. rw e refl)

-- text after what stands in a line leaves its room
put : {l : Line} (text : List ℕ) → Roomy l → Roomy (behind l text)
unfolding behind
put {l} [] h = h
put {l} (b ∷ bs) h = put {l = byte_behind l b} bs (record { size = byte-size l b ∙ h.size })

none : Roomy blank
none = record { size = length-replicate {A = ℕ} line_most 0 }

either : {x y : Line} (b : Bool) → Roomy x → Roomy y → Roomy (cond b x y)
either true a b = a
either false a b = b

change : {l : Line} (before after : List Token) (moved : Bool) → Roomy l → Roomy (changed l before after moved)
unfolding changed
change before after moved h = put _ (put _ (put _ h))

part : (number : ℕ) (shown : Bool) (label before after : List Token) (moved : Bool) → Roomy (part_line number shown label before after moved)
unfolding part_line
part number shown label before after moved = either shown (change before after moved (put _ (put _ (put _ none)))) none

register-part : {l : Line} (number bits old new : ℕ) → Roomy l → Roomy (register_part l number bits old new)
unfolding register_part
register-part number bits old new h = change _ _ _ (put _ (put _ h))

module _ (c : Case) where
  head-roomy : Roomy (head_line c)
  unfolding head_line
  head-roomy = put _ (put _ (put _ (put _ (put _ (put _ (put _ (put _ (put _ none))))))))

  first-roomy : Roomy (first_line c)
  unfolding first_line
  first-roomy = either (eqb c.reach.bits 0) head-roomy (register-part _ _ _ _ head-roomy)

  number-roomy : (k : ℕ) → Roomy (number_line c k)
  unfolding number_line
  number-roomy k = part _ _ _ _ _ _

  line-roomy : (k : ℕ) → Roomy (line_at c k)
  unfolding line_at toggle_line pointer_line marks_line entry_line beam_line
  line-roomy k =
      either (eqb k 0) first-roomy
      (either (eqb k 1) (part _ _ _ _ _ _)
      (either (eqb k 2) (part _ _ _ _ _ _)
      (either (eqb k 3) (part _ _ _ _ _ _)
      (either (eqb k 4) (part _ _ _ _ _ _) (either (eqb k 5) (part _ _ _ _ _ _) (number-roomy (k - 6)))))))

  together-roomy : (k : ℕ) → Roomy (together_line c k)
  unfolding together_line moved_line
  together-roomy k = either (eqb k 0) first-roomy (either (moved_at c.old c.new (k - 1)) (number-roomy (k - 1)) none)

lines-short : (line : ℕ → Line) → ((k : ℕ) → Roomy (line k)) → (k count : ℕ) → length (lines_of line k count) ≤ line_room * count
unfolding lines_of
lines-short line roomy k zero = omega arith
lines-short line roomy k (suc count) =
    rw length-append (omega (arith, line-short (line k) (roomy k).size, lines-short line roomy (suc k) count))

module _ (number : ℕ) (f : File) (i : Item) where
  -- an explanation
  pub explained-short : length (explained number f i) ≤ record_most
  unfolding explained
  explained-short = lines-short (line_at (case_of number f i)) (line-roomy (case_of number f i)) 0 line_count

  -- what moved together
  pub together-short : length (moved_together number f i) ≤ together_most
  unfolding moved_together together_text
  together-short =
      by-test (together (case_of number f i))
      (λ e. rw e (lines-short (together_line (case_of number f i)) (together-roomy (case_of number f i)) 0 together_count))
      (λ e. rw e (omega arith))

-- either, with room for both
pub record-short : (sums : Bool) (number : ℕ) (f : File) (i : Item) → length (record_told sums number f i) ≤ record_most
unfolding record_told
record-short true number f i = omega (arith, together-short number f i)
record-short false number f i = explained-short number f i
