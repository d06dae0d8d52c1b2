-- `refusal_line` meets its contract. Assumes nothing.
use Rattle.std.proofs.Common.{ℕ, List, Bor, ◌≡◌, refl, ap, sym, ◌∙◌}
use borrow.Author.Tests.{ne_eqb}
use native.Mathlib.Omega.{arith}
use Rattle.file.specs.Readers.{ascii}
use Rattle.text.specs.Text.{newline}
use Rattle.text.proofs.Standing.{lined-as}
use Rattle.job_portable.specs.Telling.{refusal_line, refusal_text}
use Rattle.job_portable.proofs.telling.refusal_line.Goals as goal
use Rattle.job_portable.proofs.telling.refusal_line.Goals.{in-8, in-10, in-12, in_default}

-- any other code is told as 11
other : (code : ℕ) → (code ≡ 8 → ⊥) → (code ≡ 10 → ⊥) → (code ≡ 12 → ⊥) → refusal_line 11 ≡ refusal_line code
unfolding refusal_line refusal_text
other code no-8 no-10 no-12 = rw (ne_eqb code 8 no-8, ne_eqb code 10 no-10, ne_eqb code 12 no-12) refl

pub returns : goal.returns
unfolding refusal_line refusal_text ascii newline
returns c =
    let code = c.args.code in
    let now = λ (text : Bor (List ℕ)). text.now in
    let told = lined-as c.args.at c.match-code.text.now (refusal_line code) c.args.buffer.now c.plain_text.new.buffer c.plain_text.result in
    elim c.match-code.branch [
      | in-8 w ↦ told (ap now w.text-is ∙ sym (ap refusal_line w.in-8.is)) c.plain_text.ensures
      | in-10 w ↦ told (ap now w.text-is ∙ sym (ap refusal_line w.in-10.is)) c.plain_text.ensures
      | in-12 w ↦ told (ap now w.text-is ∙ sym (ap refusal_line w.in-12.is)) c.plain_text.ensures
      | in_default w ↦
          let another = other code (λ e. omega (arith, e, w.in_default)) (λ e. omega (arith, e, w.in_default)) (λ e. omega (arith, e, w.in_default)) in
          told (ap now w.text-is ∙ another) c.plain_text.ensures
    ]
