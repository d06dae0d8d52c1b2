-- A hex digit, and what a text gives where no word of two digits is at hand. Assumes nothing.
use Prim.Native.Nat.{ℕ, ◌<◌}
use mathlib.Core.Bool.{true, false, cond}
use mathlib.Core.List.{[]}
use mathlib.Core.Path.{◌≡◌, refl, sym}
use borrow.Author.Tests.{ltb-true}
use Rattle.bits.proofs.Test.{by-test}
use Rattle.std.specs.Prelude.{Option, Some, None}
use Rattle.hex_text.specs.Text.{digit, digit_value}
use Rattle.hex_text.specs.declared.state.Stand.{Stand}
use Rattle.hex_text.specs.declared.state.Stand.TheVariants.{Between, Digit, Byte, ByteReturn, Return, Comment, Bad}
use Rattle.hex_text.specs.Machine.{given_by, end_given}

abbrev pub Found : ℕ → Option ℕ
Found b = cond (digit b) (Some (digit_value b)) None

some-same : {a b : ℕ} → Some a ≡ Some b → a ≡ b
some-same e = cc e

no_some : {v : ℕ} → None ≡ Some v → ⊥
no_some e = cc e

pub record Digits (b v : ℕ) : Type 0 where
  pub there : digit b ≡ true
  pub value : v ≡ digit_value b
  pub small : v < 16

pub digit-some : (b v : ℕ) → Found b ≡ Some v → Digits b v
unfolding digit
digit-some b v e =
    by-test (digit b)
    (λ t. let same = some-same (rw t at e) in record { there = t; value = sym same; small = rw (sym same) (ltb-true (digit_value b) 16 t) })
    (λ t. absurd (no_some (rw t at e)))

pub digit-none : (b : ℕ) → Found b ≡ None → digit b ≡ false
digit-none b e = by-test (digit b) (λ t. absurd (no_some (sym (rw t at e)))) (λ t. t)

module _ (s : Stand) (byte : (v : ℕ) → s ≡ Byte v → ⊥) (return : (v : ℕ) → s ≡ ByteReturn v → ⊥) where
  pub gives-none : (b : ℕ) → [] ≡ given_by s b
  unfolding given_by
  gives-none b = by s byte return
    where
      by : (s : Stand) → ((v : ℕ) → s ≡ Byte v → ⊥) → ((v : ℕ) → s ≡ ByteReturn v → ⊥) → [] ≡ given_by s b
      by Between p q = refl
      by (Digit high) p q = refl
      by (Byte v) p q = absurd (p v refl)
      by (ByteReturn v) p q = absurd (q v refl)
      by Return p q = refl
      by Comment p q = refl
      by Bad p q = refl

  pub ends-none : [] ≡ end_given s
  unfolding end_given
  ends-none = by s byte return
    where
      by : (s : Stand) → ((v : ℕ) → s ≡ Byte v → ⊥) → ((v : ℕ) → s ≡ ByteReturn v → ⊥) → [] ≡ end_given s
      by Between p q = refl
      by (Digit high) p q = refl
      by (Byte v) p q = absurd (p v refl)
      by (ByteReturn v) p q = absurd (q v refl)
      by Return p q = refl
      by Comment p q = refl
      by Bad p q = refl
