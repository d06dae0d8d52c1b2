-- `put_window` meets its contract. Assumes nothing.
use mathlib.Core.List.{List, [], ◌∷◌}
use mathlib.Core.Path.{refl, ap, ◌∙◌, subst}
use Prim.Native.Nat.{ℕ, ◌≤◌}
use native.Mathlib.Omega.{arith}
use lib.ListN.{length}
use Rattle.text.specs.Text.{window_2_line}
use Rattle.text.proofs.Standing.{lined-as}
use Rattle.job_geometry.specs.GeometryText.{window_text}
use Rattle.job_geometry.proofs.ShortLines.{as-one, also, none, window-short}
use Rattle.job_geometry.proofs.lines.put_window.Goals as goal

pub returns : goal.returns
unfolding window_text
returns c =
    let args = c.args in
    let same =
    ap window_2_line
    (λ i. (c.from.ensures ∙ as-one _) i
    ∷ (c.from-2.ensures ∙ as-one _) i
    ∷ c.from-3.ensures i
    ∷ c.from-4.ensures i
    ∷ c.from-5.ensures i
    ∷ c.from-6.ensures i
    ∷ (c.from-7.ensures ∙ as-one _) i
    ∷ (c.from-8.ensures ∙ as-one _) i
    ∷ c.from-9.ensures i
    ∷ c.from-10.ensures i
    ∷ []) in record {
      lined = lined-as args.at _ (window_text args.window) _ _ _ same c.window2_line.ensures;
      window_len_bound = subst (λ (t : List ℕ). length t ≤ 118) same
          (window-short _ refl
          (also (omega (arith, c.from.type_inv))
          (also (omega (arith, c.from-2.type_inv))
          (also (omega (arith, c.from-3.type_inv))
          (also (omega (arith, c.from-4.type_inv))
          (also (omega (arith, c.from-5.type_inv))
          (also (omega (arith, c.from-6.type_inv))
          (also (omega (arith, c.from-7.type_inv))
          (also (omega (arith, c.from-8.type_inv))
          (also (omega (arith, c.from-9.type_inv)) (also (omega (arith, c.from-10.type_inv)) none)))))))))));
    }
