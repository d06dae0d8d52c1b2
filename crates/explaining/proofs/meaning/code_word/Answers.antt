-- `meaning::code_word` meets its contract. Assumes nothing.
use Prim.Native.Nat.{ℕ}
use mathlib.Core.List.{List}
use mathlib.Core.Path.{ap, sym}
use native.Mathlib.Omega.{arith}
use lib.ListN.{get_or-eq_default}
use Rattle.bits.proofs.Lists.{any-default}
use Rattle.file.specs.Readers.{ascii}
use Rattle.explaining.specs.Lines.{no_words, words_token}
use Rattle.explaining.specs.Words.{code_names, code_rows, code_word}
use Rattle.explaining.proofs.meaning.code_word.Goals as goal

pub returns-then-code-ge-CODES : goal.returns-then-code-ge-CODES
unfolding code_word code_rows code_names ascii
returns-then-code-ge-CODES c =
    rw c.none.ensures
    (ap (λ (row : List ℕ). words_token row) (sym (get_or-eq_default code_rows no_words {n = c.args.code} (omega (arith, c.if-code-ge-CODES.true)))))

pub returns : goal.returns
unfolding code_word code_rows code_names ascii
returns c =
    rw c.say.ensures
    (ap (λ (row : List ℕ). words_token row) (any-default code_rows c.args.code _ no_words (omega (arith, c.if-code-ge-CODES.false))))
