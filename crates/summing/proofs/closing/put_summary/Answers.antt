-- `closing::put_summary` meets its contract. Assumes nothing.
use Prim.Native.Nat.{ℕ, ◌+◌}
use mathlib.Core.Path.{◌≡◌, sym, ◌∙◌}
use native.Mathlib.Omega.{arith}
use borrow.Author.Rules.{rules}
use lib.ListN.{get_or}
use Rattle.explaining.proofs.PutLines.{then-lines}
use Rattle.summing.specs.Closing.{code_line, register_line, summary_line, timing_line}
use Rattle.summing.proofs.LinesTold.{code-told, number-told, register-told}
use Rattle.summing.proofs.closing.put_summary.Goals as goal

pub returns : goal.returns
returns c =
    let s = c.args.summary in
    let one = c.put_lines-at.ensures in
    let two = c.put_lines-at-2.ensures in
    let three = c.put_lines.ensures in
    let registers = one.wrote (omega arith) (summary_line s) (λ k l low post. let e : l ≡ register_line k (get_or s.writes k 0) (get_or s.reaches k 0) (get_or s.moved k 0) = search rules in e ∙ sym (register-told s k low)) in
    let codes = two.wrote (omega (arith, one.upper_bound)) (λ (n : ℕ). summary_line s (108 + n)) (λ k l low post. let e : l ≡ code_line k (get_or s.codes k 0) = search rules in e ∙ sym (code-told s k low)) in
    let numbers = three.wrote (omega (arith, one.upper_bound, two.upper_bound)) (λ (n : ℕ). summary_line s (129 + n)) (λ k l low post. let e : l ≡ timing_line k (get_or s.first k 0) (get_or s.last k 0) = search rules in e ∙ sym (number-told s k)) in record {
      wrote = then-lines (summary_line s) 129 15 (then-lines (summary_line s) 108 21 registers codes) numbers;
      upper_bound = omega (arith, one.upper_bound, two.upper_bound, three.upper_bound);
    }
