-- `moves::number_label` meets its contract. Assumes nothing.
use Prim.Native.Nat.{ℕ}
use mathlib.Core.List.{List, [], ◌∷◌}
use mathlib.Core.Path.{ap, sym}
use native.Mathlib.Omega.{arith}
use lib.ListN.{get_or-eq_default}
use Rattle.bits.proofs.Lists.{any-default}
use Rattle.file.specs.Readers.{ascii}
use Rattle.explaining.specs.Lines.{no_words, phrase, say, words_token}
use Rattle.explaining.specs.Moves.{number_label, number_names, number_rows}
use Rattle.explaining.proofs.moves.number_label.Goals as goal

pub returns-then-k-ge-NUMBERS : goal.returns-then-k-ge-NUMBERS
unfolding number_label number_rows number_names ascii
returns-then-k-ge-NUMBERS c =
    let k = c.args.k in
    rw (c.phrase.ensures, c.none.ensures, c.say-space.ensures)
    (ap (λ (row : List ℕ). phrase (words_token row ∷ say " " ∷ [])) (sym (get_or-eq_default number_rows no_words {n = k} (omega (arith, c.if-k-ge-NUMBERS.true)))))

pub returns : goal.returns
unfolding number_label number_rows number_names ascii
returns c =
    let k = c.args.k in
    rw (c.phrase-2.ensures, c.say.ensures, c.say-space.ensures)
    (ap (λ (row : List ℕ). phrase (words_token row ∷ say " " ∷ [])) (any-default number_rows k _ no_words (omega (arith, c.if-k-ge-NUMBERS.false))))
