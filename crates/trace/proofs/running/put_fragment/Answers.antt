-- `put_fragment` meets its contract. Assumes nothing.
use Prim.Native.Nat.{ℕ, ◌+◌}
use mathlib.Core.Path.{refl, ap, ◌∙◌}
use mathlib.Core.List.{List, ◌++◌}
use native.Mathlib.Omega.{arith}
use lib.ListN.{take, drop}
use Rattle.file.specs.Answers.{code_of, value_of}
use Rattle.access.specs.declared.record.Record.{Record}
use Rattle.access.specs.Access.{reply_to}
use Rattle.trace.specs.Records.{record_of, reply_bytes}
use Rattle.trace.proofs.RecordBytes.{part_left}
use Rattle.trace.proofs.running.put_fragment.Goals as goal

pub returns-then-trace-at : goal.returns-then-trace-at
returns-then-trace-at c = record {
  replies_after = λ within room. let no : ⊥ = omega (arith, within, c.if-trace-at.true) in absurd no;
  replies_unchanged = (λ behind. refl, λ short. refl);
}

pub returns : goal.returns
unfolding reply_to code_of value_of
returns c =
    let found = c.args.replies.now in
    let put = c.put_reply in record {
      replies_after = λ within room. put.ensures.replies_after room
          ∙ ap (λ (r : Record). take c.args.at found ++ reply_bytes (record { code = 2; kind = r.kind; address = r.address; value = 0 }) ++ drop (c.args.at + 8) found)
          (c.record_of.ensures ∙ ap (λ (l : List ℕ). record_of (take 8 l)) (part_left c.args.trace.now c.args.at));
      replies_unchanged = (
        λ behind. let no : ⊥ = omega (arith, behind, c.if-trace-at.false) in absurd no,
        λ short. put.ensures.replies_unchanged short,
      );
    }
