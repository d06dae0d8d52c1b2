-- A short plan of the functions, from their contracts alone: what `short_plan` wrote for a saved file and a set, `run` over these bytes from the current file.
-- Assumes nothing.
use Prim.Native.Nat.{ℕ, ◌*◌, ◌≤◌}
use mathlib.Core.Path.{sym, ap, ◌∙◌, subst}
use mathlib.Core.List.{List}
use lib.ListN.{get_or, length, take}
use Rattle.std.specs.Prelude.{Ok}
use Rattle.file.specs.declared.registers.File.{File}
use Rattle.file.specs.File.{Same}
use Rattle.trace.specs.declared.running.Ran.{Ran}
use Rattle.trace.specs.Run.{RunKept}
use Rattle.roads.specs.Restores.{IsFile}
use Rattle.touched.specs.declared.set.Touched.{Touched}
use Rattle.plan.specs.Promises.{RunServes}
use Rattle.plan.specs.ShortPromises.{ShortKept}
use Rattle.short_restoring.proofs.ShortPromiseKept.{could, short-runs}
use Rattle.short_restoring.proofs.ShortRunEnds.{short-ends, short-line, short-run-answers, short-run-counts, short-run-file, short-run-codes}

-- 02, 11/13, 'Run from the current file it ends in the saved file, as the full plan does'
pub short-runs-serve : (f w : File) (s : Touched) (before after : List ℕ) (count : ℕ) (planned : ShortKept f w s before after (Ok count)) → IsFile f
    → (places replies : List ℕ) → 8 * count ≤ length places → (r : Ran) → RunKept f (take (8 * count) after) places replies r → RunServes f w count replies r
short-runs-serve f w s before after count planned ff places replies enough r ran =
    let wrote = planned.told in
    let t = (could planned).current in
    let runs = short-runs planned ff in
    let file = ran.ended ∙ short-run-file wrote f t places enough in
    record {
      answered = ran.answered ∙ short-run-answers wrote f t places enough;
      counted = ran.counted ∙ short-run-counts wrote f t places enough;
      accepted = λ k low. ap (λ (l : List ℕ). get_or l (8 * k) 0) ran.replied ∙ short-run-codes wrote f t places enough runs k low;
      ended = subst (λ (g : File). Same g w) (sym file) (short-ends wrote f runs);
      line = ap (λ (g : File). g.state.line) file ∙ short-line wrote f;
    }
