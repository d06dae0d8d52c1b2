-- `together::put_together` meets its contract. Assumes nothing.
use Prim.Native.Nat.{ℕ, ◌+◌}
use mathlib.Core.Path.{◌≡◌, sym, ◌∙◌}
use native.Mathlib.Omega.{arith}
use borrow.Author.Rules.{rules}
use Rattle.explaining.specs.Explained.{first_line}
use Rattle.explaining.proofs.PutLines.{then-lines}
use Rattle.summing.specs.Together.{moved_line, together_line}
use Rattle.summing.proofs.LinesTold.{first-told, moved-told}
use Rattle.summing.proofs.together.put_together.Goals as goal

pub returns : goal.returns
returns c =
    let case = c.args.case in
    let first = c.put_lines-at.ensures in
    let rest = c.put_lines.ensures in record {
      wrote = then-lines (together_line case) 1 15 (first.wrote (omega arith) (together_line case) (λ k l low post. let e : l ≡ first_line case = search rules in e ∙ sym (first-told case k low)))
          (rest.wrote (omega (arith, first.upper_bound)) (λ (n : ℕ). together_line case (1 + n)) (λ k l low post. let e : l ≡ moved_line case k = search rules in e ∙ sym (moved-told case k)));
      upper_bound = omega (arith, first.upper_bound, rest.upper_bound);
    }
