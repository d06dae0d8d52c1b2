-- `timing_noting` meets its contract: a code from 2 up is a refusal. Assumes nothing.
use mathlib.Core.Path.{◌≡◌, sym, ap, ◌∙◌}
use mathlib.Core.Bool.{Bool, true, false, cond}
use native.Mathlib.Omega.{arith}
use borrow.Author.Tests.{le-leb, lt-leb}
use Rattle.file.specs.Answers.{code_of, refused}
use Rattle.file.specs.File.{register}
use Rattle.timing.specs.declared.Written.{Written}
use Rattle.timing.specs.Table.{wide}
use Rattle.timing.specs.Timing.{timing_answer, write_timing}
use Rattle.touched.specs.Noted.{noted_all}
use Rattle.noting.specs.Noting.{timing_reaches, timing_noting}
use Rattle.noting.proofs.writing.timing_noting.Goals as goal

pub returns-then-code-ge2 : goal.returns-then-code-ge2
unfolding timing_noting write_timing refused
returns-then-code-ge2 c =
    let args = c.args in
    let code = c.code.ensures ∙ ap (λ (w : Written). code_of w.answer) c.write_timing-done.ensures in
    let over : refused (timing_answer args.whole args.timing) ≡ true = le-leb 2 (code_of (timing_answer args.whole args.timing)) (omega (arith, code, c.if-code-ge2.true)) in
    let set = sym (ap (λ (b : Bool). cond b args.touched (noted_all (timing_reaches (wide args.whole)) args.touched)) over) in
    λ i. record { done = c.write_timing-done.ensures i; touched = set i }

pub returns : goal.returns
unfolding timing_noting write_timing refused wide register
returns c =
    let args = c.args in
    let written = c.write_timing-done.ensures in
    let code = c.code.ensures ∙ ap (λ (w : Written). code_of w.answer) written in
    let below : refused (timing_answer args.whole args.timing) ≡ false = lt-leb 2 (code_of (timing_answer args.whole args.timing)) (omega (arith, code, c.if-code-ge2.false)) in
    let set =
    c.with_timing.ensures
    ∙ ap (λ (b : Bool). noted_all (timing_reaches b) args.touched) c.is_wide-wide.ensures
    ∙ sym (ap (λ (b : Bool). cond b args.touched (noted_all (timing_reaches (wide args.whole)) args.touched)) below) in
    λ i. record { done = written i; touched = set i }
