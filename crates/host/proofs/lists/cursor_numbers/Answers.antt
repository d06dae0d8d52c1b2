-- `cursor_numbers` meets its contract. Assumes nothing.
use Prim.Native.Nat.{ℕ, ◌<◌, ◌^◌}
use mathlib.Core.Path.{◌≡◌, ap, ◌∙◌}
use mathlib.Core.List.{[], ◌∷◌}
use native.Mathlib.Omega.{arith}
use lib.IntN.{pos}
use mir.Syntax.{w16, w32}
use mir.Val.{Fits, SFits, to_z}
use mir.ValLaws.{to_z-of_z, to_z_pos}
use Rattle.host.specs.Lists.{cursor_numbers}
use borrow.Author.Rules.{rules}
use Rattle.host.proofs.Flags.{flagged}
use Rattle.host.proofs.lists.cursor_numbers.Goals as goal

small : (n m : ℕ) → n ≡ m → n < 2 ^ 31 → to_z w32 n ≡ pos m
small n m e h = to_z_pos w32 n h ∙ ap pos e

left-fits : (c : goal.After-struct_known-1) → SFits w16 c.args.cursor.left.0
left-fits c = search rules

top-fits : (c : goal.After-struct_known-1) → SFits w16 c.args.cursor.top.0
top-fits c = search rules

width-fits : (c : goal.After-struct_known-1) → Fits w16 c.args.cursor.width.0
width-fits c = search rules

height-fits : (c : goal.After-struct_known-1) → Fits w16 c.args.cursor.height.0
height-fits c = search rules

pub returns : goal.returns
unfolding cursor_numbers
returns c =
    let left = c.from-2 in
    let top = c.from-3 in
    λ i. (to_z-of_z w32 c.from.result (record { sfits = c.from.type_inv }) ∙ c.from.ensures ∙ ap pos (flagged c.args.cursor.enabled)) i
    ∷ (to_z-of_z w32 left.result (record { sfits = left.type_inv }) ∙ left.ensures ∙ to_z-of_z w16 _ (left-fits c)) i
    ∷ (to_z-of_z w32 top.result (record { sfits = top.type_inv }) ∙ top.ensures ∙ to_z-of_z w16 _ (top-fits c)) i
    ∷ small _ _ c.from-4.ensures (omega (arith, c.from-4.ensures, (width-fits c).fits)) i
    ∷ small _ _ c.from-5.ensures (omega (arith, c.from-5.ensures, (height-fits c).fits)) i
    ∷ to_z_pos w32 _ c.requires i
    ∷ []
