use Prim.Native.Nat.{ℕ, ◌*◌, ◌%◌}
use mathlib.Core.Path.{◌≡◌, refl, sym, ap, ◌∙◌, subst}
use mathlib.Core.Bool.{cond, ◌&&◌, not}
use mathlib.Core.List.{◌++◌}
use native.Mathlib.Omega.{arith}
use lib.Dec.{T}
use lib.ListN.{drop, set}
use Rattle.file.specs.declared.chip.Chip.{Chip}
use Rattle.file.specs.declared.registers.File.{File}
use Rattle.file.specs.declared.state.State.{State}
use Rattle.file.specs.File.{register, seen, black, bank_count}
use Rattle.file.specs.Palette.{component}
use Rattle.file.specs.Sound.{sound}
use Rattle.places.specs.EngineCells.{cell_table}
use Rattle.access.specs.Access.{in_bank, shown_in}
use Rattle.quick.specs.Slots.{by_the_key, slots_true}
use Rattle.quick.specs.Smalls.{smalls_of, state_of}
use Rattle.quick.proofs.Parts.{same-state, plain-pixel, plain-paints}
use Rattle.trace.specs.EngineServed.{served_of}
use Rattle.trace.specs.declared.running.Served.{Served}
use Rattle.trace.specs.Records.{items}
use Rattle.trace.specs.Run.{file_after, replies}
use Rattle.trace.proofs.RunLoop.{together, on-either, key-record, buffer-long, shown-served, painted-palette, painted-bank, held-step}
use Rattle.trace.proofs.RunMore.{run_sound}
use Rattle.trace.proofs.running.run_whole.Goals as goal

pub loop-n-init : goal.loop-n-init
unfolding file_after items replies
loop-n-init c =
    let state : State = c.args.whole.state in
    record {
      held = record { reached = omega arith; file = refl; said = refl };
      whole = c.smalls_of.ensures ∙ ap smalls_of (sym (same-state state refl refl c.smalls_of.ensures));
      coded = c.codes_of.ensures;
    }

pub four_at-key-requires : goal.four_at-key-requires
four_at-key-requires c = omega (arith, c.loop-n-test.true, c.requires.1)

pub four_at-value-requires : goal.four_at-value-requires
four_at-value-requires c = omega (arith, c.loop-n-test.true, c.requires.1)

pub turn-said-requires : goal.turn-said-requires
unfolding sound seen
turn-said-requires c =
    let whole : File = c.args.whole in
    let inv = c.loop-n.invariant in
    let first = same-state whole.state refl refl c.smalls_of.ensures in (
      record {
        table = c.cells.ensures;
        bits = c.stored.ensures;
        whole = inv.whole;
        coded = inv.coded;
        good =
            subst (λ (f : File). T (sound f)) (sym inv.held.file)
            (run_sound _ _ (subst (λ (s : State). T (sound (together whole.registers whole.palette whole.bank s))) (sym first) c.requires.0));
      },
      on-either (λ (chip : Chip). T (slots_true (cell_table chip) c.all_slots-slots.result.now)) whole.state.chip c.all_slots-slots.ensures,
    )

pub put_said-requires : goal.put_said-requires
put_said-requires c = omega (arith, buffer-long _ _ _ c.loop-n.invariant.held c.requires.2, c.loop-n-test.true, c.requires.2)

pub loop-n-smaller : goal.loop-n-smaller
loop-n-smaller c = omega (arith, c.loop-n-test.true)

pub loop-n-preserved : goal.loop-n-preserved
unfolding black in_bank register seen served_of by_the_key
loop-n-preserved c =
    let turn = c.loop-n in
    let inv = turn.invariant in
    let more = c.loop-n-test.true in
    let done = c.turn-said.ensures in
    let said : ℕ = c.turn-said.result in
    let key : ℕ = c.four_at-key.result in
    let value : ℕ = c.four_at-value.result in
    let shown = c.coloured-shown in
    let told = shown.ensures in
    let asked = by_the_key key value in
    let there = key-record c.args.trace.now (8 * turn.n) (λ i. omega (arith, c.type_inv.trace i)) key value c.four_at-key.ensures c.four_at-value.ensures in
    let from : State = state_of c.args.whole.state.chip turn.parts.line turn.parts.smalls in
    let s : Served = served_of said (state_of c.args.whole.state.chip c.turn-said.new.parts.line c.turn-said.new.parts.smalls) in
    let given : shown.result ≡ cond s.pixel (shown_in (together turn.parts.registers turn.palette turn.bank from)) s.value =
    told.shown ∙ shown-served turn.parts.registers turn.palette turn.bank from asked _ s done.served said refl done.address done.next in
    let palette = told.entries ∙ painted-palette turn.palette said from.pointer.address done.address in
    let bank = told.borders ∙ painted-bank turn.bank said from.pointer.address done.address in
    record {
      held =
          held-step _ _ _ inv.held more (omega (arith, more, c.requires.1)) asked there _ s done.served shown.result
          given shown.new.palette shown.new.bank palette bank
          _ (rw c.code_in.ensures at c.put_said.ensures);
      whole = done.whole;
      coded = done.coded;
    }

pub shape_of-replies : goal.shape_of-replies
shape_of-replies c = buffer-long _ _ _ c.loop-n.invariant.held c.requires.2

pub returns : goal.returns
returns c =
    let whole : File = c.args.whole in
    let inv = c.loop-n.invariant in
    let first : together whole.registers whole.palette whole.bank (state_of whole.state.chip whole.state.line c.smalls_of.result) ≡ whole = ap (together whole.registers whole.palette whole.bank) (same-state whole.state refl refl c.smalls_of.ensures) in
    let all : c.loop-n.n ≡ c.args.count = omega (arith, c.loop-n-test.false, inv.held.reached) in record {
      value = ap (together c.loop-n.parts.registers c.loop-n.palette c.loop-n.bank) c.state_in.ensures ∙ inv.held.file ∙ (λ i. file_after (first i) (items (all i) c.args.trace.now));
      replies_after = inv.held.said ∙ (λ i. replies (first i) (items (all i) c.args.trace.now) ++ drop (8 * all i) c.args.replies.now);
    }
