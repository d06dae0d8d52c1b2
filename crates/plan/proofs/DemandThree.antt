-- Demand 3 of the functions, from their contracts alone: what `plan` wrote for a wanted file, `run` over these bytes from any sound file on the wanted
-- file's chip.
-- Assumes nothing.
use Prim.Native.Nat.{ℕ, ◌*◌, ◌≤◌}
use mathlib.Core.Path.{◌≡◌, refl, sym, ap, ◌∙◌, subst}
use mathlib.Core.Bool.{true≢false}
use mathlib.Core.List.{List}
use borrow.Author.Tests.{eq-eqb, le-leb}
use lib.Dec.{T}
use lib.ListN.{length, get_or, take}
use Rattle.std.specs.Prelude.{Result, Ok, Err}
use Rattle.bits.proofs.Test.{is_true}
use Rattle.file.specs.declared.answer.Answer.{Answer}
use Rattle.file.specs.declared.answer.Answer.TheVariants.{Done}
use Rattle.file.specs.declared.registers.File.{File}
use Rattle.file.specs.Answers.{code_of, refused}
use Rattle.file.specs.File.{Same}
use Rattle.file.specs.Sound.{sound}
use Rattle.trace.specs.declared.running.Ran.{Ran}
use Rattle.trace.specs.Run.{RunKept}
use Rattle.roads.specs.Refusals.{answer_of, plan_answer}
use Rattle.roads.specs.Restores.{IsFile}
use Rattle.plan.specs.Promises.{PlanKept, RunServes}
use Rattle.plan.proofs.PromisesKept.{written-few, run-answers, run-counts, run_ends, run-line, run-codes}

-- 'For every sound register file whose palette pointer rests before red, and a buffer of 8,192 bytes or more'
module _ (w : File) (ws : T (sound w)) (red : w.state.pointer.next ≡ 0) (before after : List ℕ) (room : 8192 ≤ length before) where
  -- 'the library writes a plan'
  pub plan-answers : (p : Result ℕ Answer) → PlanKept w before after p → answer_of p ≡ Done 0
  unfolding plan_answer
  plan-answers p planned =
      planned.answered
      ∙ rw (is_true (sound w) ws, eq-eqb w.state.pointer.next 0 red, le-leb 8192 (length before) room) refl

  -- so no refusal comes back, and a count does
  pub plan-counts : (p : Result ℕ Answer) → PlanKept w before after p → (count : ℕ) × (p ≡ Ok count)
  unfolding refused code_of
  plan-counts (Ok count) planned = (count, refl)
  plan-counts (Err a) planned = absurd (true≢false (sym planned.told.0 ∙ ap refused (plan-answers (Err a) planned)))

module _ (w : File) (before after : List ℕ) (count : ℕ) (planned : PlanKept w before after (Ok count)) where
  -- 'of at most 1,024 ordinary accesses'
  pub plan-few : count ≤ 1024
  plan-few = written-few planned.told.written

  -- 'from every sound file, that plan is accepted at each access and ends in exactly the wanted file'; 02, 6/13: 'Demand 3 then speaks of starts on the
  -- wanted file's chip'; 02, 10/13: the line 'is outside demand 3's sameness', and stays the start's
  pub plan-runs : (f : File) → IsFile f → T (sound f) → f.state.chip ≡ w.state.chip → (places replies : List ℕ) → 8 * count ≤ length places → (r : Ran)
      → RunKept f (take (8 * count) after) places replies r → RunServes f w count replies r
  plan-runs f ff fs chips places replies enough r ran =
      let s = is_true (sound f) fs in
      let made = planned.told.written in
      record {
        answered = ran.answered ∙ run-answers made f ff s chips places enough;
        counted = ran.counted ∙ run-counts made f ff s chips places enough;
        accepted = λ k low. ap (λ (l : List ℕ). get_or l (8 * k) 0) ran.replied ∙ run-codes made f ff s chips places enough k low;
        ended = subst (λ (g : File). Same g w) (sym ran.ended) (run_ends made f ff s chips places enough);
        line = ap (λ (g : File). g.state.line) ran.ended ∙ run-line made f ff s chips places enough;
      }
