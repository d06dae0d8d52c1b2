-- `put_reply` meets its contract. Assumes nothing.
use Prim.Native.Nat.{ℕ, ◌+◌, ◌*◌, ◌/◌, ◌%◌, ◌<◌}
use mathlib.Core.Path.{◌≡◌, refl, ◌∙◌}
use mathlib.Core.List.{List, ◌++◌}
use native.Mathlib.Omega.{arith}
use lib.ListN.{take, drop}
use Rattle.trace.specs.Records.{reply_bytes}
use Rattle.trace.proofs.wire.put_reply.Goals as goal

-- the first four bytes of a record as one number hold its kind and its address
said-as : (found exit : List ℕ) (at code value kind address key : ℕ) → kind < 256 → key ≡ kind + 65536 * address
    → exit ≡ take at found ++ reply_bytes (record { code = code; kind = key % 256; address = key / 65536; value = value }) ++ drop (at + 8) found
    → exit ≡ take at found ++ reply_bytes (record { code = code; kind = kind; address = address; value = value }) ++ drop (at + 8) found
said-as found exit at code value kind address key small e said =
    let kinds : key % 256 ≡ kind = omega (arith, e, small) in
    let addresses : key / 65536 ≡ address = omega (arith, e, small) in
    said ∙ (λ i. take at found ++ reply_bytes (record { code = code; kind = kinds i; address = addresses i; value = value }) ++ drop (at + 8) found)

pub returns-then-size-lt8 : goal.returns-then-size-lt8
returns-then-size-lt8 c = record {
  replies_after = λ room. let no : ⊥ = omega (arith, room, c.if-size-lt8.true) in absurd no;
  replies_unchanged = λ short. refl;
}

pub returns-then-size-at : goal.returns-then-size-at
returns-then-size-at c = record {
  replies_after = λ room. let no : ⊥ = omega (arith, room, c.if-size-lt8.false, c.if-size-at.true) in absurd no;
  replies_unchanged = λ short. refl;
}

pub returns : goal.returns
returns c =
    let put = c.put_said in record {
      replies_after = λ room. said-as c.args.replies.now _ c.args.at c.args.code c.args.value c.args.asked.kind c.args.asked.address _
          (omega (arith, c.struct_known-1)) refl put.ensures;
      replies_unchanged = λ short. let no : ⊥ = omega (arith, short, c.if-size-lt8.false, c.if-size-at.false) in absurd no;
    }
