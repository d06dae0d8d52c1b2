-- `looks_like_text` meets its contract. Assumes nothing.
use Prim.Native.Nat.{ℕ}
use mathlib.Core.Path.{sym, ap, ◌∙◌}
use mathlib.Core.List.{List}
use borrow.Author.Tests.{eqb-true, eqb-false, leb-true, leb-false}
use mathlib.Core.Path.{◌≡◌}
use lib.Dec.{leb}
use Rattle.bits.proofs.Test.{by-test}
use Rattle.std.proofs.lemmas.List.{take_all}
use Prim.Native.Nat.{min}
use native.Mathlib.Omega.{arith}
use lib.ListN.{length, take}
use Rattle.std.specs.List.{list_all}
use Rattle.hex_text.specs.Source.{printable}
use Rattle.hex_text.proofs.Looks.{looks-by, empty-not}
use Rattle.hex_text.proofs.source.looks_like_text.Goals as goal

first-bytes : (bytes : List ℕ) → take (min (length bytes) 64) bytes ≡ take 64 bytes
first-bytes bytes =
    by-test (leb (length bytes) 64)
    (λ e. let short = leb-true (length bytes) 64 e in take_all (min (length bytes) 64) bytes (omega (arith, short)) ∙ sym (take_all 64 bytes short))
    (λ e. let all : min (length bytes) 64 ≡ 64 = omega (arith, leb-false (length bytes) 64 e) in ap (λ (n : ℕ). take n bytes) all)

pub returns-then-is_empty : goal.returns-then-is_empty
returns-then-is_empty c =
    empty-not c.args.bytes.now (eqb-true (length c.args.bytes.now) 0 (sym c.is_empty.ensures ∙ c.if-is_empty.true))

pub returns : goal.returns
returns c =
    let bytes = c.args.bytes.now in
    c.all_printable.ensures
    ∙ ap (list_all printable) (ap (λ (n : ℕ). take n bytes) c.min.ensures ∙ first-bytes bytes)
    ∙ looks-by bytes (eqb-false (length bytes) 0 (sym c.is_empty.ensures ∙ c.if-is_empty.false))
