-- `explain::put_record` meets its contract. Assumes nothing.
use Prim.Native.Nat.{ℕ, ◌+◌}
use mathlib.Core.List.{List, [], ◌∷◌}
use mathlib.Core.Path.{◌≡◌, sym, ◌∙◌}
use native.Mathlib.Omega.{arith}
use borrow.Author.Rules.{rules}
use lib.ListN.{get_or}
use Rattle.explaining.specs.Explained.{line_at, number_line}
use Rattle.explaining.specs.Lines.{Line}
use Rattle.explaining.proofs.PutLines.{then-lines}
use Rattle.explaining.proofs.RecordLines.{head_at, number_at}
use Rattle.explaining.proofs.explain.put_record.Goals as goal

pub returns : goal.returns
returns c =
    let case = c.args.case in
    let made : List Line = c.first_line.result ∷ c.toggle_line.result ∷ c.pointer_line.result ∷ c.marks_line.result ∷ c.entry_line.result ∷ c.beam_line.result ∷ [] in
    let head = c.put_lines-at.ensures in
    let rest = c.put_lines.ensures in record {
      wrote = then-lines (line_at case) 6 15 (head.wrote (omega arith) (line_at case) (λ k l low post. let e : l ≡ get_or made k l = search rules in e ∙ rw (c.first_line.ensures, c.toggle_line.ensures, c.pointer_line.ensures, c.marks_line.ensures, c.entry_line.ensures, c.beam_line.ensures) (head_at case l k low))) (rest.wrote (omega (arith, head.upper_bound)) (λ (n : ℕ). line_at case (6 + n)) (λ k l low post. let e : l ≡ number_line case k = search rules in e ∙ sym (number_at case k)));
      upper_bound = omega (arith, head.upper_bound, rest.upper_bound);
    }
