-- What the restores with the set promise, from what the code did. Assumes nothing.
use Prim.Native.Nat.{ℕ}
use mathlib.Core.Path.{◌≡◌, refl, sym, ap, ◌∙◌, subst}
use mathlib.Core.List.{List}
use lib.ListN.{length}
use Rattle.std.specs.Prelude.{Result, Ok, Err, ⊤}
use Rattle.bits.proofs.Test.{passes}
use Rattle.file.specs.declared.registers.File.{File}
use Rattle.file.specs.File.{Same}
use Rattle.file.specs.Sound.{sound}
use Rattle.trace.specs.Records.{items}
use Rattle.trace.specs.Run.{file_after}
use Rattle.roads.specs.Restores.{Restores, IsFile}
use Rattle.roads.proofs.PlanServes.{same-chip}
use Rattle.touched.specs.declared.set.Touched.{Touched}
use Rattle.touched.specs.Outside.{agrees_outside}
use Rattle.touched.specs.Things.{nothing}
use Rattle.plan.specs.declared.short_answer.ShortAnswer.{ShortAnswer}
use Rattle.plan.specs.ShortAnswers.{without_room, with_room, short_answer}
use Rattle.plan.specs.ShortPromises.{ShortKept}
use Rattle.plan.proofs.ShortPromisesKept.{Planable, planable}
use Rattle.short_restoring.specs.Promises.{ShortRestoreKept}
use Rattle.short_restoring.proofs.ShortRunEnds.{short-ends, short-line}

-- no refusal met it
room-asked-last : (f w : File) (s : Touched) (room : ℕ) → short_answer f w s room ≡ Ok tt → without_room f w s ≡ Ok tt
unfolding short_answer with_room
room-asked-last f w s room = asked (without_room f w s)
  where
    asked : (r : Result ⊤ ShortAnswer) → with_room r room ≡ Ok tt → r ≡ Ok tt
    asked (Ok done) e = refl
    asked (Err a) e = e

module _ {f w : File} {s : Touched} {before after : List ℕ} where
  pub short_back : (a : ShortAnswer) → ShortKept f w s before after (Err a) → ShortRestoreKept f w s before after (record { count = Err a; file = f; touched = s })
  short_back a p = record { answered = p.answered; line = refl; told = record { back = refl; kept = p.told; noted = refl } }

  module _ {count : ℕ} (p : ShortKept f w s before after (Ok count)) where
    pub could : Planable f w s
    could = planable f w s (room-asked-last f w s (length before) (sym p.answered))

    pub short-runs : IsFile f → Restores f p.told.records w
    short-runs ff =
        p.told.plans.restores f ff (passes (sound f) could.current) (same-chip _ _ could.chips) (passes (agrees_outside s f w) could.agrees)

    pub short-done : IsFile f → (g : File) → g ≡ file_after f (items count after) → (x : Touched) → x ≡ nothing
        → ShortRestoreKept f w s before after (record { count = Ok count; file = g; touched = x })
    short-done ff g e x none_named =
        record {
          answered = p.answered;
          line = ap (λ (h : File). h.state.line) e ∙ short-line p.told f;
          told = record {
            made = p.told;
            ran = e;
            restored = subst (λ (h : File). Same h w) (sym e) (short-ends p.told f (short-runs ff));
            noted = none_named;
          };
        }
