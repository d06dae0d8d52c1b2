-- `reading::read_options` meets its contract. Assumes nothing.
use Rattle.std.proofs.Common.{◌≡◌, List, ℕ, length, refl, sym, ◌∙◌, Result}
use Rattle.std.proofs.lemmas.Result.{err_from_is_err_and}
use Rattle.options.specs.declared.types.Asked.{Asked}
use Rattle.options.specs.declared.types.Refused.{Refused}
use Rattle.options.specs.Asking.{asked, told_of}
use Rattle.options.specs.Within.{AllWithin}
use Rattle.options.proofs.SpansKept.{spans-within}
use Rattle.options.proofs.reading.read_options.Goals as goal

within-by : (words : List ℕ) (r : Result Asked Refused) → r ≡ asked words → AllWithin (length words) r
within-by words r e = rw e (spans-within words)

pub returns-then-not-is_whole : goal.returns-then-not-is_whole
unfolding asked
returns-then-not-is_whole c =
    let value : _ ≡ asked c.args.words.now = rw (sym c.is_whole.ensures ∙ c.if-not-is_whole.true, c.refused.ensures, c.begun.ensures) refl in
    record { value = value; spans_within = within-by _ _ value }

pub returns-in_err-read_words : goal.returns-in_err-read_words
unfolding asked told_of
returns-in_err-read_words c =
    let p = err_from_is_err_and c.from_residual.result c.from_residual.ensures.1 in
    let value : _ ≡ asked c.args.words.now =
    rw (p.1, p.2, sym c.is_whole.ensures ∙ c.if-not-is_whole.false, sym c.read_words.ensures ∙ c.in_err-read_words.was) refl in
    record { value = value; spans_within = within-by _ _ value }

pub returns : goal.returns
unfolding asked told_of
returns c =
    let value : _ ≡ asked c.args.words.now =
    rw (sym c.is_whole.ensures ∙ c.if-not-is_whole.false, sym c.read_words.ensures ∙ c.in_ok-read_words.was) c.told.ensures in
    record { value = value; spans_within = within-by _ _ value }
