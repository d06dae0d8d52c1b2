-- Tokens as code keeps them: so many, and nothing behind them up to eight. Assumes nothing.
use Prim.Native.Nat.{ℕ, ◌+◌, ◌-◌, min}
use mathlib.Core.List.{List, ◌++◌, append-nil}
use mathlib.Core.Path.{◌≡◌, sym, ap, ◌∙◌}
use native.Mathlib.Omega.{arith}
use borrow.Author.Tests.{leb-false, leb-true}
use lib.Dec.{leb}
use lib.ListN.{length, take, drop, replicate}
use lib.Seq.{take_all}
use Rattle.std.proofs.lemmas.List.{drop-replicate, take-append-le, take-replicate}
use Rattle.std.proofs.Math.Seq.{take-append-add}
use Rattle.bits.proofs.Test.{by-test}
use Rattle.explaining.specs.declared.token.Token.{Token}
use Rattle.explaining.specs.Lines.{nothing, phrase}

pub phrased : (ts : List Token) (many count : ℕ) → length ts ≡ many → count ≡ min many 8 → take count ts ++ drop count (replicate 8 nothing) ≡ phrase ts
phrased ts many count long e =
    by-test (leb many 8)
    (λ t.
    let low = leb-true many 8 t in
    let all : take count ts ≡ ts = take_all count ts (omega (arith, low, long, e)) in
    let left : 8 ≡ length ts + (8 - count) = omega (arith, low, long, e) in
    let behind : drop count (replicate 8 nothing) ≡ take (8 - count) (replicate 8 nothing) = drop-replicate count 8 nothing ∙ sym (take-replicate (8 - count) 8 nothing (omega arith)) in
    rw (all, behind) (sym (take-append-add ts (replicate 8 nothing) (8 - count)) ∙ ap (λ (n : ℕ). take n (ts ++ replicate 8 nothing)) (sym left)))
    (λ t.
    let high = leb-false many 8 t in
    let eight : count ≡ 8 = omega (arith, high, e) in
    rw eight (append-nil (take 8 ts) ∙ sym (take-append-le 8 ts (replicate 8 nothing) (omega (arith, high, long)))))
