-- `put_image` meets its contract. Assumes nothing.
use Prim.Native.Nat.{ℕ}
use mathlib.Core.Path.{ap, ◌∙◌}
use mathlib.Core.List.{List, ◌++◌}
use native.Mathlib.Omega.{arith}
use lib.ListN.{length}
use lib.Seq.{sets}
use Rattle.image.specs.Bytes.{word_bytes}
use Rattle.image.proofs.Filling.{stored-four, words_count}
use Rattle.image.specs.Image.{heading, image_of}
use Rattle.image.proofs.saving.put_image.Goals as goal

pub returns : goal.returns
unfolding image_of heading
returns c =
    let first = c.heading in
    let last = c.kept_set in
    c.put_bytes-3.ensures
    ∙ ap (λ (l : List ℕ). sets l 1050 last.result) c.put_bytes-2.ensures
    ∙ ap (λ (l : List ℕ). sets (sets l 224 c.args.rest) 1050 last.result) c.put_words.ensures
    ∙ ap (λ (l : List ℕ). sets (sets (sets l 8 (word_bytes c.args.registers)) 224 c.args.rest) 1050 last.result) c.put_bytes.ensures
    ∙ stored-four c.args.buffer.now first.result (word_bytes c.args.registers) c.args.rest last.result 8 224 1050
    (ap length first.ensures) (omega (arith, words_count c.args.registers, c.well_formed.1.0.1.0.1)) (omega (arith, c.well_formed.1.1.0.1.0.1))
    ∙ (λ i. sets c.args.buffer.now 0 (first.ensures i ++ word_bytes c.args.registers ++ c.args.rest ++ last.ensures i))
