-- `turn` meets its contract. Assumes nothing.
use Prim.Native.Nat.{ℕ}
use mathlib.Core.Path.{refl, sym, ap, ap₂, ◌∙◌}
use Rattle.file.specs.declared.registers.File.{File}
use Rattle.file.specs.declared.state.State.{State}
use Rattle.file.specs.File.{seen}
use Rattle.file.specs.Registers.{stored_table}
use Rattle.places.specs.declared.place.Place.{Place}
use Rattle.places.specs.EngineCells.{plain_place, cell_table}
use Rattle.places.specs.Profile.{profile}
use Rattle.places.proofs.BehindPorts.{place-behind}
use Rattle.access.specs.Engine.{decision, decided_read, decided_write}
use Rattle.quick.specs.Classes.{codes_of}
use Rattle.quick.specs.Slots.{by_the_key}
use Rattle.quick.specs.Smalls.{state_of}
use Rattle.trace.proofs.SlotTurns.{quick-turns, refuses, writes-there, reads-there}
use Rattle.host.proofs.serving.turn.Goals as goal

pub returns-then-refusal-ne0 : goal.returns-then-refusal-ne0
unfolding seen state_of
returns-then-refusal-ne0 c =
    let chip = c.args.chip in
    let key = c.args.key in
    let value = c.args.value in
    let registers = c.args.registers.now in
    let smalls = c.args.smalls.now in
    let f : File = seen registers (state_of chip c.args.line smalls) in
    (quick-turns registers smalls chip c.args.line (by_the_key key value) (decision f (by_the_key key value)) refl _ _ c.told.result
    (refuses chip f refl c.requires.2 key _ _ c.args.cell value c.requires.0.slot c.requires.0.fits _ c.told.result smalls c.code_of-refusal.ensures c.if-refusal-ne0.true c.told.ensures c.requires.1)
    (codes_of registers) refl).served

pub returns-then-key-eq1 : goal.returns-then-key-eq1
unfolding seen state_of
returns-then-key-eq1 c =
    let chip = c.args.chip in
    let key = c.args.key in
    let value = c.args.value in
    let registers = c.args.registers.now in
    let smalls = c.args.smalls.now in
    let s : State = state_of chip c.args.line smalls in
    let f : File = seen registers s in
    let behind = c.behind-plain in
    let code = c.code_of-refusal in
    let none = sym code.ensures ∙ c.if-refusal-ne0.false in
    let there = place-behind (cell_table chip) f c.args.cell c.requires.0.low ∙ ap plain_place (sym behind.ensures) in
    (quick-turns registers smalls chip c.args.line (by_the_key key value)
    (decided_write (stored_table chip) f (profile (plain_place behind.result)).writing c.low.result)
    (writes-there chip f refl c.requires.2 key _ _ c.args.cell value c.requires.0.slot c.requires.0.fits none c.if-key-eq1.true
    ∙ ap₂ (λ (p : Place) (v : ℕ). decided_write (stored_table chip) f (profile p).writing v) there (sym c.low.ensures))
    _ _ c.write_at.result (c.write_at.ensures s c.requires.1) (codes_of _) refl).served

pub returns : goal.returns
unfolding seen state_of
returns c =
    let chip = c.args.chip in
    let key = c.args.key in
    let value = c.args.value in
    let registers = c.args.registers.now in
    let smalls = c.args.smalls.now in
    let s : State = state_of chip c.args.line smalls in
    let f : File = seen registers s in
    let behind = c.behind-plain in
    let code = c.code_of-refusal in
    let none = sym code.ensures ∙ c.if-refusal-ne0.false in
    let there = place-behind (cell_table chip) f c.args.cell c.requires.0.low ∙ ap plain_place (sym behind.ensures) in
    (quick-turns registers smalls chip c.args.line (by_the_key key value) (decided_read f (profile (plain_place behind.result)).reading)
    (reads-there chip f refl c.requires.2 key _ _ c.args.cell value c.requires.0.slot c.requires.0.fits none c.if-key-eq1.false
    ∙ ap (λ (p : Place). decided_read f (profile p).reading) there)
    _ _ c.read_place.result (c.read_place.ensures s c.requires.1 refl refl) (codes_of registers) refl).served
