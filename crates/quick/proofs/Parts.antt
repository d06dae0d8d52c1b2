-- A state's bytes are the state, and a decision carried out on registers and state, by what its effect is. Assumes nothing.
use Prim.Native.Nat.{ℕ, ◌<◌}
use mathlib.Core.Path.{◌≡◌, refl, sym, ◌∙◌, subst}
use mathlib.Core.Bool.{Bool, true, false, cond, true≢false}
use mathlib.Core.List.{List}
use native.Mathlib.Omega.{arith}
use lib.Dec.{eqb}
use Rattle.bits.proofs.Test.{by-test}
use Rattle.file.specs.declared.answer.Answer.{Answer}
use Rattle.file.specs.declared.chip.Chip.{Chip}
use Rattle.file.specs.declared.effect.Effect.{Effect}
use Rattle.file.specs.declared.effect.Effect.TheVariants.{Nothing}
use Rattle.file.specs.declared.registers.File.{File}
use Rattle.file.specs.declared.state.State.{State}
use Rattle.file.specs.Answers.{code_of, value_of, refused}
use Rattle.file.specs.Effects.{apply}
use Rattle.places.specs.declared.place.Place.{Place}
use Rattle.places.specs.EngineCells.{plain_place}
use Rattle.places.specs.Profile.{profile, reads_pixel}
use Rattle.access.specs.declared.engine.Decision.{Decision}
use Rattle.access.specs.Access.{answer_of_read, read_effect, write_answer, write_effect}
use Rattle.access.specs.Engine.{reach_by, decided_read, decided_write}
use Rattle.places.specs.EngineCells.{taken}
use Rattle.quick.specs.Painting.{paints}
use Rattle.quick.specs.Said.{plain_said, code_in, value_in, mark_in, pixel_in, paints_in, Told}
use Rattle.quick.specs.Smalls.{smalls_of, state_of}
use Rattle.quick.specs.Turned.{Turned}

-- ---- the bytes of a state

pub bit-back : (b : Bool) → eqb (cond b 1 0) 1 ≡ b
bit-back true = refl
bit-back false = refl

pub state-back : (s : State) → state_of s.chip s.line (smalls_of s) ≡ s
unfolding state_of smalls_of
state-back s =
    λ i. record {
      pointer =
          record {
            address = s.pointer.address;
            reading = bit-back s.pointer.reading i;
            next = s.pointer.next;
            red = s.pointer.red;
            green = s.pointer.green;
          };
      marks = s.marks;
      toggle = bit-back s.toggle i;
      chip = s.chip;
      line = s.line;
    }

pub same-state : (s : State) {chip : Chip} {line : ℕ} {smalls : List ℕ} → chip ≡ s.chip → line ≡ s.line → smalls ≡ smalls_of s → state_of chip line smalls ≡ s
same-state s same-chip same_line same-smalls = (λ i. state_of (same-chip i) (same_line i) (same-smalls i)) ∙ state-back s

-- ---- what is told

pub says : (a : Answer) {said code value : ℕ} → (code_in said ≡ code) × (value_in said ≡ value) × (said < plain_said)
    → code ≡ code_of a → value ≡ value_of a → Told a said
says a t same_code same-value = record { code = t.0 ∙ same_code; value = t.1 ∙ same-value; plain = t.2 }

pub plain-mark : (said : ℕ) → said < plain_said → mark_in said ≡ 0
unfolding mark_in
plain-mark said h = omega (arith, h)

pub plain-pixel : (said : ℕ) → said < plain_said → pixel_in said ≡ false
unfolding pixel_in
plain-pixel said h = rw (plain-mark said h)

pub plain-paints : (said : ℕ) → said < plain_said → paints_in said ≡ false
unfolding paints_in
plain-paints said h = rw (plain-mark said h)

-- ---- equal decisions are carried out alike

pub turned_by : {d e : Decision} {f : File} {registers smalls : List ℕ} {said : ℕ} → d ≡ e → Turned d f registers smalls said → Turned e f registers smalls said
turned_by {f = f} {registers = registers} {smalls = smalls} {said = said} same t = subst (λ (x : Decision). Turned x f registers smalls said) same t

-- ---- a decision carried out that paints nothing and shows no pixel

pub made : (a : Answer) (e : Effect) (f : File) (d : Decision) (said : ℕ) (registers smalls : List ℕ)
    → d ≡ record { answer = a; effect = e; pixel = false } → Told a said → paints e ≡ false
    → registers ≡ (apply e f).registers → smalls ≡ smalls_of (apply e f).state → (apply e f).state.line ≡ f.state.line
    → Turned d f registers smalls said
made a e f d said registers smalls same t none r s l =
    subst (λ (x : Decision). Turned x f registers smalls said) (sym same)
    (record {
      code = t.code;
      value = t.value;
      pixel = plain-pixel said t.plain;
      held = r;
      state = s;
      line = l;
      address = λ h. absurd (omega (arith, h, t.plain));
      next = λ p. absurd (true≢false (sym p ∙ plain-pixel said t.plain));
      painting = plain-paints said t.plain ∙ sym none;
      bank = λ p. absurd (true≢false (sym p ∙ plain-paints said t.plain));
      colour = λ p. absurd (true≢false (sym p ∙ plain-paints said t.plain));
    })

pub unchanged : (a : Answer) (f : File) (d : Decision) (said : ℕ) (smalls : List ℕ)
    → d ≡ record { answer = a; effect = Nothing; pixel = false } → Told a said → smalls ≡ smalls_of f.state
    → Turned d f f.registers smalls said
unfolding apply paints
unchanged a f d said smalls same t s = made a Nothing f d said f.registers smalls same t refl refl s refl

-- ---- at a plain cell's place

module _ (f : File) (cell : ℕ) (place : Place) (there : plain_place cell ≡ place) (smalls : List ℕ) (said : ℕ) where
  pub read-there : (registers : List ℕ) → Turned (decided_read f (profile place).reading) f registers smalls said
      → Turned (decided_read f (profile (plain_place cell)).reading) f registers smalls said
  read-there registers t = subst (λ (p : Place). Turned (decided_read f (profile p).reading) f registers smalls said) (sym there) t

  -- a read that leaves the file
  pub only-read : smalls ≡ smalls_of f.state → reads_pixel (profile place).reading ≡ false → read_effect f (profile place).reading ≡ Nothing
      → Told (answer_of_read f (profile place).reading) said → Turned (decided_read f (profile (plain_place cell)).reading) f f.registers smalls said
  unfolding decided_read
  only-read s none same t =
      read-there f.registers
      (unchanged (answer_of_read f (profile place).reading) f (decided_read f (profile place).reading) said smalls
      (rw (none, same) (by-test (refused (answer_of_read f (profile place).reading)) (λ e. rw e) (λ e. rw e))) t s)

  pub write-there : (stored : List ℕ) (value : ℕ) (registers : List ℕ) → Turned (decided_write stored f (profile place).writing value) f registers smalls said
      → Turned (decided_write stored f (profile (plain_place cell)).writing value) f registers smalls said
  write-there stored value registers t =
      subst (λ (p : Place). Turned (decided_write stored f (profile p).writing value) f registers smalls said) (sym there) t

  -- a write that leaves the file
  pub only-write : (stored : List ℕ) (value : ℕ) → smalls ≡ smalls_of f.state
      → write_effect (reach_by stored f) f (profile place).writing (taken (profile place).writing value) ≡ Nothing
      → Told (write_answer f (profile place).writing) said
      → Turned (decided_write stored f (profile (plain_place cell)).writing value) f f.registers smalls said
  unfolding decided_write
  only-write stored value s same t =
      write-there stored value f.registers
      (unchanged (write_answer f (profile place).writing) f (decided_write stored f (profile place).writing value) said smalls
      (rw same (by-test (refused (write_answer f (profile place).writing)) (λ e. rw e) (λ e. rw e))) t s)
