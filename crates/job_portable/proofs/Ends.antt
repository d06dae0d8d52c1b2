-- The line and the bytes that are put out, from what the callees left. Assumes nothing.
use Rattle.std.specs.Prelude.{Option, Some, None, Result, Ok, Err}
use Prim.Native.Nat.{ℕ}
use mathlib.Core.Bool.{Bool, true, false, cond}
use mathlib.Core.List.{List, [], ◌++◌}
use mathlib.Core.Path.{◌≡◌, refl, sym, ap, ◌∙◌}
use native.Mathlib.Nat.{zero-add}
use lib.ListN.{length, drop}
use Rattle.bits.proofs.Test.{by-test}
use Rattle.file.specs.declared.answer.Answer.{Answer}
use Rattle.file.specs.declared.answer.Answer.TheVariants.{Done, ShortBuffer}
use Rattle.file.specs.Answers.{code_of, refused}
use Rattle.portable.specs.declared.Timing.{Timing}
use Rattle.portable.specs.Timing.{bytes_after, read_timing, timing_answer, timing_of}
use Rattle.portable_text.specs.declared.writing.NotWritten.{NotWritten}
use Rattle.portable_text.specs.declared.writing.NotWritten.TheVariants.{NoList, Refused}
use Rattle.portable_text.specs.Line.{line_of}
use Rattle.portable_text.specs.Numbers.{ListWritten, bytes_listed, list_result, listed_in}
use Rattle.text.specs.declared.placed.Placed.{Placed}
use Rattle.text.specs.Lent.{Lined, behind_by, fits, placed_by, room_answer}
use Rattle.job_portable.specs.Ended.{LineEnded, NumbersEnded, numbers_result, numbers_stored, with_answer}

-- a text that was asked for from the buffer's start on
module _ (text out₀ out : List ℕ) (placed : Placed) (lined : Lined (room_answer out₀ 0 text) 0 text out₀ out placed) where
  -- its answer tells whether it had room
  room-told : (b : Bool) → fits out₀ 0 text ≡ b → placed.answer ≡ cond b (Done 0) ShortBuffer
  unfolding room_answer
  room-told b e = lined.answered ∙ ap (λ (c : Bool). cond c (Done 0) ShortBuffer) e

  had-room : (x : ℕ) → placed.answer ≡ Done x → fits out₀ 0 text ≡ true
  had-room x e =
      by-test (fits out₀ 0 text) (λ t. t)
      (λ t. let never : ◌≡◌ {A = Answer} ShortBuffer (Done x) = sym (room-told false t) ∙ e in absurd (cc))

  no_room : ((x : ℕ) → placed.answer ≡ Done x → ⊥) → fits out₀ 0 text ≡ false
  no_room e = by-test (fits out₀ 0 text) (λ t. absurd (e 0 (room-told true t))) (λ t. t)

  -- where it ends, and what the buffer holds
  ends : (b : Bool) → fits out₀ 0 text ≡ b → placed.end ≡ cond b (length text) 0
  unfolding room_answer behind_by refused code_of
  ends true e = rw e at lined.ended ∙ zero-add (length text)
  ends false e = rw e at lined.ended

  stores : (b : Bool) → fits out₀ 0 text ≡ b → out ≡ cond b (text ++ drop (length text) out₀) out₀
  unfolding room_answer placed_by refused code_of
  stores true e = rw e at lined.bytes ∙ ap (λ (k : ℕ). text ++ drop k out₀) (zero-add (length text))
  stores false e = rw e at lined.bytes

-- the line of some bytes
module _ (bytes out₀ out : List ℕ) (placed : Placed) (lined : Lined (room_answer out₀ 0 (line_of bytes)) 0 (line_of bytes) out₀ out placed) where
  pub line-short : ((x : ℕ) → placed.answer ≡ Done x → ⊥) → LineEnded bytes out₀ out (record { answer = placed.answer; end = placed.end })
  line-short some =
      let none = no_room (line_of bytes) out₀ out placed lined some in
      record {
        answered = rw none (room-told (line_of bytes) out₀ out placed lined false none);
        ended = rw none (ends (line_of bytes) out₀ out placed lined false none);
        stored = rw none (stores (line_of bytes) out₀ out placed lined false none);
      }

  pub line-put : (x : ℕ) → placed.answer ≡ Done x → (answer : Answer) → answer ≡ (read_timing bytes).answer
      → LineEnded bytes out₀ out (record { answer = answer; end = placed.end })
  line-put x done answer e =
      let room = had-room (line_of bytes) out₀ out placed lined x done in
      record {
        answered = rw room e;
        ended = rw room (ends (line_of bytes) out₀ out placed lined true room);
        stored = rw room (stores (line_of bytes) out₀ out placed lined true room);
      }

-- the bytes with the numbers of a list: what the writer refuses puts nothing
refused-by : (bytes out₀ : List ℕ) (o : Option Timing) (why : NotWritten) → list_result bytes o ≡ Err why
    → (Err why ≡ numbers_result bytes o out₀) × (out₀ ≡ numbers_stored bytes o out₀)
unfolding list_result numbers_result numbers_stored with_answer
refused-by bytes out₀ None why e =
    let same : NoList (timing_answer bytes (timing_of [])) ≡ why =
    let h : ◌≡◌ {A = Result (Unit {0}) NotWritten} (Err (NoList (timing_answer bytes (timing_of [])))) (Err why) = e in cc in (ap Err (sym same), refl)
refused-by bytes out₀ (Some t) why e =
    by-test (refused (timing_answer bytes t))
    (λ h. let told : ◌≡◌ {A = Result (Unit {0}) NotWritten} (Err (Refused (timing_answer bytes t))) (Err why) = rw h at e in
    let same : Refused (timing_answer bytes t) ≡ why = cc in
    (rw (h, h) (ap Err (sym same)), rw (h, h) refl))
    (λ h. let never : ◌≡◌ {A = Result (Unit {0}) NotWritten} (Ok tt) (Err why) = rw h at e in absurd (cc))

-- and what it doesn't is a list
taken-by : (bytes : List ℕ) (o : Option Timing) → list_result bytes o ≡ Ok tt → (t : Timing) × (o ≡ Some t) × (refused (timing_answer bytes t) ≡ false)
unfolding list_result
taken-by bytes None e =
    let never : ◌≡◌ {A = Result (Unit {0}) NotWritten} (Err (NoList (timing_answer bytes (timing_of [])))) (Ok tt) = e in absurd (cc)
taken-by bytes (Some t) e =
    by-test (refused (timing_answer bytes t))
    (λ h. let never : ◌≡◌ {A = Result (Unit {0}) NotWritten} (Err (Refused (timing_answer bytes t))) (Ok tt) = rw h at e in absurd (cc))
    (λ h. (t, refl, h))

module _ (bytes list after : List ℕ) (tried : Result (Unit {0}) NotWritten) (written : ListWritten bytes list after tried) where
  pub list-refused : (out₀ : List ℕ) (why : NotWritten) → tried ≡ Err why → NumbersEnded bytes list out₀ out₀ (Err why)
  list-refused out₀ why e =
      let both = refused-by bytes out₀ (listed_in list) why (sym written.answered ∙ e) in
      record { answered = both.0; stored = both.1 }

  module _ (taken : tried ≡ Ok tt) (out₀ out : List ℕ) (placed : Placed) (lined : Lined (room_answer out₀ 0 after) 0 after out₀ out placed) where
    found : (t : Timing) × (listed_in list ≡ Some t) × (refused (timing_answer bytes t) ≡ false)
    found = taken-by bytes (listed_in list) (sym written.answered ∙ taken)

    abbrev With : List ℕ
    With = bytes_after bytes found.0

    lined-with : Lined (room_answer out₀ 0 With) 0 With out₀ out placed
    unfolding bytes_listed
    lined-with = rw (written.bytes ∙ ap (bytes_listed bytes) found.1) at lined

    answer-by : (b : Bool) → fits out₀ 0 With ≡ b → with_answer bytes found.0 out₀ ≡ cond b (Done 0) ShortBuffer
    unfolding with_answer room_answer
    answer-by b e = rw (found.2, e) refl

    pub list_put : (x : ℕ) → placed.answer ≡ Done x → NumbersEnded bytes list out₀ out (Ok placed.end)
    unfolding numbers_result numbers_stored refused code_of
    list_put x done =
        let room = had-room With out₀ out placed lined-with x done in
        record {
          answered = rw (found.1, answer-by true room) (ap Ok (ends With out₀ out placed lined-with true room));
          stored = rw (found.1, answer-by true room) (stores With out₀ out placed lined-with true room);
        }

    pub list-short : ((x : ℕ) → placed.answer ≡ Done x → ⊥) → NumbersEnded bytes list out₀ out (Err (Refused placed.answer))
    unfolding numbers_result numbers_stored refused code_of
    list-short some =
        let none = no_room With out₀ out placed lined-with some in
        record {
          answered = rw (found.1, answer-by false none) (ap (λ (a : Answer). Err (Refused a)) (room-told With out₀ out placed lined-with false none));
          stored = rw (found.1, answer-by false none) (stores With out₀ out placed lined-with false none);
        }
