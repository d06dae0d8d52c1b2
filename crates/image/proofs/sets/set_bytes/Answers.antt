-- `set_bytes` meets its contract. Assumes nothing.
use Prim.Native.Nat.{ℕ}
use mathlib.Core.Path.{◌≡◌, refl, ap, ◌∙◌}
use mathlib.Core.List.{List, [], ◌∷◌, ◌++◌}
use native.Mathlib.Omega.{arith}
use lib.ListN.{length, replicate}
use lib.Seq.{sets, length-sets}
use Rattle.image.specs.Bytes.{flag_bytes}
use Rattle.image.proofs.Filling.{filled-by-four, flags-count}
use Rattle.touched.proofs.SetIsSet.{is-set}
use Rattle.image.specs.Parts.{set_bytes}
use Rattle.image.proofs.sets.set_bytes.Goals as goal

pub put_flags-requires : goal.put_flags-requires
put_flags-requires c =
    omega (arith, (is-set c.args.set _ c.well_formed.0).registers)

pub put_flags-requires-2 : goal.put_flags-requires-2
put_flags-requires-2 c =
    let long : length c.put_flags.new.buffer ≡ 383 = ap length c.put_flags.ensures ∙ length-sets {A = ℕ} (replicate 383 0) 0 (flag_bytes c.args.set.registers) in
    omega (arith, long, (is-set c.args.set _ c.well_formed.0).palette)

pub put_flags-requires-3 : goal.put_flags-requires-3
put_flags-requires-3 c =
    let long : length c.put_flags-2.new.buffer ≡ 383 =
    ap length c.put_flags-2.ensures ∙ length-sets c.put_flags.new.buffer 108 (flag_bytes c.args.set.palette) ∙ ap length c.put_flags.ensures ∙ length-sets {A = ℕ} (replicate 383 0) 0 (flag_bytes c.args.set.registers) in
    omega (arith, long, (is-set c.args.set _ c.well_formed.0).bank)

pub returns : goal.returns
unfolding set_bytes flag_bytes
returns c =
    let s = c.args.set in
    let counted = is-set s _ c.well_formed.0 in
    ap (λ (l : List ℕ). sets l 380 (c.flag_byte.result ∷ c.flag_byte-2.result ∷ c.flag_byte-3.result ∷ []))
    (c.put_flags-3.ensures
    ∙ ap (λ (l : List ℕ). sets l 364 (flag_bytes s.bank))
    (c.put_flags-2.ensures ∙ ap (λ (l : List ℕ). sets l 108 (flag_bytes s.palette)) c.put_flags.ensures))
    ∙ filled-by-four (replicate 383 0) (flag_bytes s.registers) (flag_bytes s.palette) (flag_bytes s.bank) (c.flag_byte.result ∷ c.flag_byte-2.result ∷ c.flag_byte-3.result ∷ []) 108 364 380
    (flags-count s.registers ∙ counted.registers) (omega (arith, flags-count s.palette, counted.palette)) (omega (arith, flags-count s.bank, counted.bank)) refl
    ∙ ap (λ (l : List ℕ). flag_bytes s.registers ++ flag_bytes s.palette ++ flag_bytes s.bank ++ l)
    (λ i. c.flag_byte.ensures i ∷ c.flag_byte-2.ensures i ∷ c.flag_byte-3.ensures i ∷ [])
