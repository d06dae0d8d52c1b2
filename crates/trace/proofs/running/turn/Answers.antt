-- `turn` meets its contract. Assumes nothing.
use Prim.Native.Nat.{ℕ, ◌%◌, ◌<◌}
use mathlib.Core.List.{List}
use mathlib.Core.Path.{◌≡◌, refl, sym, ◌∙◌, subst}
use native.Mathlib.Omega.{arith}
use lib.Dec.{T}
use lib.ListN.{get_or}
use Rattle.file.specs.declared.chip.Chip.{Chip}
use Rattle.file.specs.declared.registers.File.{File}
use Rattle.file.specs.File.{seen}
use Rattle.file.specs.Names.{CR7}
use Rattle.places.specs.EngineCells.{cell_table, behind_cell, cell_place}
use Rattle.places.specs.Profile.{profile}
use Rattle.access.specs.Engine.{decision, decided_read, decided_write}
use Rattle.quick.specs.Classes.{codes_of}
use Rattle.quick.specs.Slots.{by_the_key, slot_true, empty}
use Rattle.quick.specs.Smalls.{state_of}
use Rattle.quick.specs.Turned.{Coded}
use Rattle.quick.proofs.SlotsTold.{slot_at, cell-low, attribute-free}
use Rattle.trace.proofs.SlotTurns.{quick-turns, refuses, writes-there, reads-there}
use Rattle.trace.proofs.running.turn.Goals as goal

pub returns-then-refusal-ne0 : goal.returns-then-refusal-ne0
unfolding seen state_of
returns-then-refusal-ne0 c =
    let chip : Chip = c.args.tables.now.chip in
    let key : ℕ = c.args.key in
    let value : ℕ = c.args.value in
    let i : ℕ = c.slot_of.result in
    let limit : ℕ = (get_or c.args.slots.now i empty).limit in
    let class : ℕ = (get_or c.args.slots.now i empty).class in
    let cell : ℕ = (get_or c.args.slots.now i empty).cell in
    let f : File = seen c.args.parts.now.registers (state_of chip c.args.parts.now.line c.args.parts.now.smalls) in
    let ready = c.requires.0 in
    let t : T (slot_true (cell_table chip) key limit class cell) =
    subst (λ (k : ℕ). T (slot_true (cell_table chip) k limit class cell)) c.if-slot-key.false
    (slot_at (cell_table chip) c.args.slots.now c.requires.1 i) in
    let fits : value < limit = c.if-slot-value.false in
    let here : get_or c.args.parts.now.codes c.class_of.result 0 ≡ get_or (codes_of c.args.parts.now.registers) (class % 8) 0 =
    (λ j. get_or (ready.coded j) (c.class_of.ensures.0 j) 0) in
    quick-turns c.args.parts.now.registers c.args.parts.now.smalls chip c.args.parts.now.line (by_the_key key value) (decision f (by_the_key key value)) refl _ _ c.told.result
    (refuses chip f refl ready.good key limit class cell value t fits _ c.told.result c.args.parts.now.smalls here c.if-refusal-ne0.true c.told.ensures ready.whole)
    _ ready.coded

pub returns-then-key-eq1 : goal.returns-then-key-eq1
unfolding seen state_of Coded
returns-then-key-eq1 c =
    let chip : Chip = c.args.tables.now.chip in
    let key : ℕ = c.args.key in
    let value : ℕ = c.args.value in
    let i : ℕ = c.slot_of.result in
    let limit : ℕ = (get_or c.args.slots.now i empty).limit in
    let class : ℕ = (get_or c.args.slots.now i empty).class in
    let cell : ℕ = (get_or c.args.slots.now i empty).cell in
    let f : File = seen c.args.parts.now.registers (state_of chip c.args.parts.now.line c.args.parts.now.smalls) in
    let ready = c.requires.0 in
    let t : T (slot_true (cell_table chip) key limit class cell) =
    subst (λ (k : ℕ). T (slot_true (cell_table chip) k limit class cell)) c.if-slot-key.false
    (slot_at (cell_table chip) c.args.slots.now c.requires.1 i) in
    let fits : value < limit = c.if-slot-value.false in
    let here : get_or c.args.parts.now.codes c.class_of.result 0 ≡ get_or (codes_of c.args.parts.now.registers) (class % 8) 0 =
    (λ j. get_or (ready.coded j) (c.class_of.ensures.0 j) 0) in
    let low : cell < 0x7D = omega (arith, cell-low (cell_table chip) key limit class cell value t fits) in
    let done = c.turn_write.ensures (subst (λ (l : List ℕ). CR7 < behind_cell l c.args.parts.now.registers 0x7C) (sym ready.table) (attribute-free chip c.args.parts.now.registers)) low in
    quick-turns c.args.parts.now.registers c.args.parts.now.smalls chip c.args.parts.now.line (by_the_key key value)
    (decided_write c.args.tables.now.stored f (profile (cell_place c.args.tables.now.cells f cell)).writing (value % 65536))
    (writes-there chip f refl ready.good key limit class cell value t fits (sym here ∙ c.if-refusal-ne0.false) c.if-key-eq1.true
    ∙ (λ j. decided_write (sym ready.bits j) f (profile (cell_place (sym ready.table j) f cell)).writing (value % 65536)))
    _ _ c.turn_write.result (done.0 (state_of chip c.args.parts.now.line c.args.parts.now.smalls) ready.whole) _ (done.1 ready.coded)

pub returns : goal.returns
unfolding seen state_of
returns c =
    let chip : Chip = c.args.tables.now.chip in
    let key : ℕ = c.args.key in
    let value : ℕ = c.args.value in
    let i : ℕ = c.slot_of.result in
    let limit : ℕ = (get_or c.args.slots.now i empty).limit in
    let class : ℕ = (get_or c.args.slots.now i empty).class in
    let cell : ℕ = (get_or c.args.slots.now i empty).cell in
    let f : File = seen c.args.parts.now.registers (state_of chip c.args.parts.now.line c.args.parts.now.smalls) in
    let ready = c.requires.0 in
    let t : T (slot_true (cell_table chip) key limit class cell) =
    subst (λ (k : ℕ). T (slot_true (cell_table chip) k limit class cell)) c.if-slot-key.false
    (slot_at (cell_table chip) c.args.slots.now c.requires.1 i) in
    let fits : value < limit = c.if-slot-value.false in
    let here : get_or c.args.parts.now.codes c.class_of.result 0 ≡ get_or (codes_of c.args.parts.now.registers) (class % 8) 0 =
    (λ j. get_or (ready.coded j) (c.class_of.ensures.0 j) 0) in
    let even = c.if-key-eq1.false in
    let low : cell < 0x7C = omega (arith, cell-low (cell_table chip) key limit class cell value t fits, even) in
    quick-turns c.args.parts.now.registers c.args.parts.now.smalls chip c.args.parts.now.line (by_the_key key value)
    (decided_read f (profile (cell_place c.args.tables.now.cells f cell)).reading)
    (reads-there chip f refl ready.good key limit class cell value t fits (sym here ∙ c.if-refusal-ne0.false) even
    ∙ (λ j. decided_read f (profile (cell_place (sym ready.table j) f cell)).reading))
    _ _ c.turn_read.result (c.turn_read.ensures low (state_of chip c.args.parts.now.line c.args.parts.now.smalls) ready.whole refl refl) _ ready.coded
