-- `put_cursor` meets its contract. Assumes nothing.
use mathlib.Core.List.{List, [], ◌∷◌}
use mathlib.Core.Path.{refl, ap, ◌∙◌, subst}
use Prim.Native.Nat.{ℕ, ◌≤◌}
use native.Mathlib.Omega.{arith}
use borrow.Author.Rules.{rules}
use lib.IntN.{nat_abs}
use lib.ListN.{length}
use mir.Syntax.{w16}
use mir.Val.{SFits}
use mir.ValLaws.{to_z-of_z}
use Rattle.text.proofs.Standing.{lined-as}
use Rattle.job_geometry.specs.GeometryText.{below_zero, cursor_text}
use Rattle.job_geometry.proofs.LinesPut.{same-cursor}
use Rattle.job_geometry.proofs.ShortLines.{as-one, also, cursor-short, none}
use Rattle.job_geometry.proofs.lines.put_cursor.Goals as goal

left-fits : (c : goal.After-slice_known-2-1) → SFits w16 c.args.cursor.left.0
left-fits c = search rules

top-fits : (c : goal.After-slice_known-2-1) → SFits w16 c.args.cursor.top.0
top-fits c = search rules

pub returns : goal.returns
unfolding cursor_text below_zero
returns c =
    let args = c.args in
    let across = to_z-of_z w16 _ (left-fits c) in
    let down = to_z-of_z w16 _ (top-fits c) in
    let same =
    same-cursor (ap below_zero across) (ap below_zero down)
    (λ i. (c.from.ensures ∙ as-one _) i
    ∷ (c.magnitude.ensures ∙ ap nat_abs across) i
    ∷ (c.magnitude-2.ensures ∙ ap nat_abs down) i
    ∷ c.from-2.ensures i
    ∷ c.from-3.ensures i
    ∷ args.cursor.address
    ∷ []) in record {
      lined = lined-as args.at _ (cursor_text args.cursor) _ _ _ same c.cursor_line.ensures;
      cursor_len_bound = subst (λ (t : List ℕ). length t ≤ 76) same
          (cursor-short _ _ _ refl
          (also (omega (arith, c.from.type_inv))
          (also (omega (arith, c.magnitude.type_inv))
          (also (omega (arith, c.magnitude-2.type_inv))
          (also (omega (arith, c.from-2.type_inv))
          (also (omega (arith, c.from-3.type_inv)) (also c.well_formed.0.1.1.1.1.1.1.1.0.1 none)))))));
    }
