-- `replay_part` meets its contract. Assumes nothing.
use Rattle.std.proofs.Common.{◌≡◌, ◌≤◌, ◌+◌, ◌^◌, ℕ, Bool, true, sym, ap, ◌∙◌, arith, leb-true}
use Rattle.bits.proofs.Test.{passes}
use Rattle.replaying.specs.Replay.{records_fit}
use Rattle.text.specs.Text.{numbers_fit}
use Rattle.replaying.proofs.PartRuns.{fit-lines, fit-replies, not-numbered, not-roomy, not-sound, part-done}
use Rattle.replaying.proofs.replay_part.Goals as goal

-- what the tests said of so many records
roomy_by : (count replies lines : ℕ) {told said : Bool} (n : ℕ) → n ≡ count → told ≡ records_fit n 0 replies lines → told ≡ said → records_fit count 0 replies lines ≡ said
roomy_by count replies lines n e t s = ap (λ (k : ℕ). records_fit k 0 replies lines) (sym e) ∙ sym t ∙ s

numbered_by : (number count : ℕ) {told said : Bool} (n : ℕ) → n ≡ count → told ≡ numbers_fit number n → told ≡ said → numbers_fit number count ≡ said
numbered_by number count n e t s = ap (numbers_fit number) (sym e) ∙ sym t ∙ s

numbers_low : (number count : ℕ) → numbers_fit number count ≡ true → number + count ≤ 2 ^ 64
unfolding numbers_fit
numbers_low number count e = omega (arith, leb-true _ _ e)

pub returns-then-not-is_sound : goal.returns-then-not-is_sound
returns-then-not-is_sound c =
    let args = c.args in
    record {
      replayed = not-sound args.before args.number args.trace.now args.replies.now args.lines.now (sym c.is_sound.ensures ∙ c.if-not-is_sound.true);
      done = tt;
    }

pub returns-then-not-records_fit : goal.returns-then-not-records_fit
returns-then-not-records_fit c =
    let args = c.args in
    record {
      replayed =
          not-roomy args.before args.number args.trace.now args.replies.now args.lines.now (sym c.is_sound.ensures ∙ c.if-not-is_sound.false)
          (roomy_by _ _ _ _ c.item_count-count.ensures c.records_fit.ensures c.if-not-records_fit.true);
      done = tt;
    }

pub returns-then-not-numbers_fit : goal.returns-then-not-numbers_fit
returns-then-not-numbers_fit c =
    let args = c.args in
    record {
      replayed =
          not-numbered args.before args.number args.trace.now args.replies.now args.lines.now (sym c.is_sound.ensures ∙ c.if-not-is_sound.false)
          (roomy_by _ _ _ _ c.item_count-count.ensures c.records_fit.ensures c.if-not-records_fit.false)
          (numbered_by _ _ _ c.item_count-count.ensures c.numbers_fit.ensures c.if-not-numbers_fit.true);
      done = tt;
    }

pub returns : goal.returns
returns c =
    let args = c.args in
    let good = sym c.is_sound.ensures ∙ c.if-not-is_sound.false in
    let roomy = roomy_by _ _ _ _ c.item_count-count.ensures c.records_fit.ensures c.if-not-records_fit.false in
    let numbered = numbered_by _ _ _ c.item_count-count.ensures c.numbers_fit.ensures c.if-not-numbers_fit.false in
    let parted =
    c.run_untested.ensures.parted (passes _ good) (fit-replies _ _ _ _ roomy) (λ _. omega (arith, fit-lines _ _ _ _ roomy)) (numbers_low _ _ numbered) in
    record {
      replayed = part-done args.before args.number args.trace.now args.replies.now args.lines.now good roomy numbered parted;
      done = (parted, c.run_untested.ensures.ran);
    }
