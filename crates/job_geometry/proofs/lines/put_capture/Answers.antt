-- `put_capture` meets its contract. Assumes nothing.
use mathlib.Core.List.{List, [], ◌∷◌}
use mathlib.Core.Path.{refl, ap, subst}
use Prim.Native.Nat.{ℕ, ◌≤◌}
use native.Mathlib.Omega.{arith}
use lib.ListN.{length}
use Rattle.text.specs.Text.{capture_line}
use Rattle.text.proofs.Standing.{lined-as}
use Rattle.job_geometry.specs.GeometryText.{capture_text}
use Rattle.job_geometry.proofs.ShortLines.{also, capture-short, none}
use Rattle.job_geometry.proofs.lines.put_capture.Goals as goal

pub returns : goal.returns
unfolding capture_text
returns c =
    let args = c.args in
    let same =
    ap capture_line
    (λ i. c.from.ensures i ∷ c.from-2.ensures i ∷ c.from-3.ensures i ∷ c.from-4.ensures i ∷ []) in record {
      lined = lined-as args.at _ (capture_text args.capture) _ _ _ same c.capture_line.ensures;
      capture_len_bound = subst (λ (t : List ℕ). length t ≤ 52) same
          (capture-short _ refl
          (also (omega (arith, c.from.type_inv))
          (also (omega (arith, c.from-2.type_inv))
          (also (omega (arith, c.from-3.type_inv)) (also (omega (arith, c.from-4.type_inv)) none)))));
    }
