-- `end_source` meets its contract, by what the input is. Assumes nothing.
use Rattle.hex_text.proofs.Kept.{bytes-ended, text-source-ended, text-source-kept}
use Rattle.hex_text.proofs.source.end_source.Goals as goal

pub returns-in-Bytes : goal.returns-in-Bytes
returns-in-Bytes c = rw c.in-Bytes.is (bytes-ended _ _)

pub returns-in_ok-over-in-Text : goal.returns-in_ok-over-in-Text
returns-in_ok-over-in-Text c =
    let ended = rw c.in_ok-over-in-Text.was at c.end_text.ensures in
    rw c.in-Text.is (text-source-ended _ _ _ c.in-Text.text c.in_ok-over-in-Text.over ended)

pub returns-in_err-over-in-Text : goal.returns-in_err-over-in-Text
returns-in_err-over-in-Text c =
    let kept = rw c.in_err-over-in-Text.was at c.end_text.ensures in
    rw (c.from_residual.ensures, c.in-Text.is) (text-source-kept _ _ _ c.in-Text.text kept)
