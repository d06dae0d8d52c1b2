-- `registers_in` meets its contract. Assumes nothing.
use mathlib.Core.Path.{◌≡◌, ◌∙◌}
use native.Mathlib.Omega.{arith}
use lib.ListN.{length, take, drop, replicate, length-drop}
use lib.Seq.{length-take-le}
use Rattle.image.specs.Bytes.{words_in}
use Rattle.image.proofs.Filling.{all-stored, words-in-count}
use Rattle.image.specs.Image.{registers_in}
use Rattle.image.proofs.saving.registers_in.Goals as goal

pub returns : goal.returns
unfolding registers_in
returns c =
    let image = c.args.image.now in
    let long : length (take 216 (drop 8 image)) ≡ 216 = length-take-le 216 (drop 8 image) (simp length-drop (omega (arith, c.requires))) in
    c.words_in.ensures ∙ all-stored (words_in (take 216 (drop 8 image))) (replicate 108 0) (words-in-count 108 (take 216 (drop 8 image)) long)
