-- 02, 8/13: both engines give the same, on every trace, buffer and start file. Assumes nothing.
use Prim.Native.Nat.{ℕ}
use mathlib.Core.Path.{◌≡◌, sym, ◌∙◌}
use mathlib.Core.List.{List}
use seplogic.Ra.Ura.{Ura}
use prog.Model.{Model}
use prog.Wired.{Code, Wired}
use mir.Syntax.{Callee}
use types.Logic.{Logic}
use contract.Lifetimes.{Lfts}
use contract.Running.{Running}
use denote.Triple.Clauses.{AtExit}
use denote.Triple.Spec.{Meets}
use borrow.Fn.Kinds.{Dens, res_t, ended_of}
use Rattle.file.specs.declared.registers.File.{File}
use Rattle.trace.specs.declared.running.Ran.{Ran}
use Rattle.trace.specs.Run.{RunKept}
use Rattle.trace.specs.contracts.run as quick-run
use Rattle.trace.proofs.run.Kinds as kinds
use Rattle.trace.proofs.run.Met as quick-proof
use Rattle.trace.proofs.run.Reads as quick-reads
use Rattle.trace.proofs.run.Symbol as quick-code
use Rattle.plain.proofs.run.Met as plain-proof
use Rattle.plain.proofs.run.Reads as plain-reads
use Rattle.plain.proofs.run.Symbol as plain_code

-- code meets the contract of `trace::run`: what its name stands for does, in every environment that has the code
abbrev pub RunsAsQuick : Code → Callee → Type 1 → Type 2
RunsAsQuick code name M =
    (𝓤 : Ura M) (𝓛 : Logic 𝓤) (𝓜 : Model 𝓤 𝓛.H) (𝓡 : Running 𝓤 𝓛.H 𝓜)
    → Wired 𝓡.env code
    → Meets 𝓛 quick-run.signature (𝓡.run (𝓡.env name)) (quick-run.spec 𝓛 𝓜.mem 𝓡.returns)

-- the code of either engine does: that of `trace::run`, and that of `plain::run`
pub both_meet : {M : Type 1} → RunsAsQuick quick-code.code quick-code.name M × RunsAsQuick plain_code.code plain_code.name M
both_meet = (quick-proof.met, plain-proof.met)

-- ---- what the contract says fixes every part of a run

pub one-run : (f : File) (trace buffer : List ℕ) (r s : Ran) (after-r after-s : List ℕ)
    → RunKept f trace buffer after-r r → RunKept f trace buffer after-s s → (r ≡ s) × (after-r ≡ after-s)
one-run f trace buffer r s after-r after-s one other = (
  λ i. record { answer = (one.answered ∙ sym other.answered) i; file = (one.ended ∙ sym other.ended) i; count = (one.counted ∙ sym other.counted) i },
  one.replied ∙ sym other.replied,
)

-- a call: the start file, the trace and the buffer; what comes back, and the buffer then
module _ (κs : Lfts 2) (call : Dens κs kinds.ps) where
  abbrev Result : Type 0
  Result = (res_t kinds.r κs).Denot

  abbrev Left : Type 0
  Left = AtExit (ended_of 2 kinds.ps kinds.r) κs

  abbrev RunsSo : Result → Left → Type 0
  RunsSo r left = RunKept call.0 call.1.0.now call.1.1.0.now left.1.1.0.now r

  quick-runs : (r : Result) (left : Left) → quick-reads.Learnt κs call r left → RunsSo r left
  quick-runs r left learnt = record { answered = learnt.0.0; ended = learnt.0.1; counted = learnt.0.2; replied = learnt.1 }

  plain_runs : (r : Result) (left : Left) → plain-reads.Learnt κs call r left → RunsSo r left
  plain_runs r left learnt = record { answered = learnt.0.0; ended = learnt.0.1; counted = learnt.0.2; replied = learnt.1 }

  -- from one file, over one trace and into one buffer, whatever they are, what the contract of `trace::run` allows and what that of `plain::run` allows
  -- is one: the answer, the file, the count and every byte of the buffer
  pub same-engines : (quick plain : Result) (by-quick by-plain : Left)
      → quick-reads.Learnt κs call quick by-quick → plain-reads.Learnt κs call plain by-plain
      → (quick ≡ plain) × (by-quick.1.1.0.now ≡ by-plain.1.1.0.now)
  same-engines quick plain by-quick by-plain one other =
      one-run call.0 call.1.0.now call.1.1.0.now quick plain by-quick.1.1.0.now by-plain.1.1.0.now
      (quick-runs quick by-quick one) (plain_runs plain by-plain other)
