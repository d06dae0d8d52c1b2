-- The bytes that a job keeps are the first 29 of its input. Assumes nothing.
use Prim.Native.Nat.{ℕ, ◌+◌, ◌≤◌, ◌<◌}
use mathlib.Core.List.{List, [], ◌∷◌, ◌++◌, append_assoc, append-nil}
use mathlib.Core.Path.{◌≡◌, refl, sym, ◌∙◌}
use native.Mathlib.Numerals.{add-one}
use native.Mathlib.Omega.{arith}
use borrow.Author.Tests.{ltb-true, ltb-false}
use lib.Dec.{ltb}
use lib.ListN.{length, take, set, length-set}
use lib.Seq.{length-take-le, take_all, take-append-le, take-suc-set}
use Rattle.bits.proofs.Test.{by-test}
use Rattle.text.specs.Fixed.{behind, byte_behind, text_of}
use Rattle.job_portable.specs.Kept.{PortableJob, begun, held, job_after}

-- parts one after the other
pub after-parts : (job : PortableJob) (a b : List ℕ) → job_after job (a ++ b) ≡ job_after (job_after job a) b
unfolding behind
after-parts job [] b = refl
after-parts job (x ∷ a) b = after-parts (byte_behind job x) a b

-- a job as it may come from the start: room for 29 bytes, and no more of them
record Sound (job : PortableJob) : Type 0 where
  long : length job.bytes ≡ 29
  few : job.end ≤ 29

full : (job : PortableJob) → Sound job → 29 ≤ job.end → (byte : ℕ) (part : List ℕ)
    → take 29 (take job.end job.bytes ++ part) ≡ take 29 (take job.end job.bytes ++ byte ∷ part)
full job sound h byte part =
    let all = length-take-le job.end job.bytes (omega (arith, sound.long, sound.few)) in
    take-append-le 29 (take job.end job.bytes) part (omega (arith, all, h))
    ∙ sym (take-append-le 29 (take job.end job.bytes) (byte ∷ part) (omega (arith, all, h)))

sound-byte : (job : PortableJob) (byte : ℕ) → Sound job → Sound (byte_behind job byte)
unfolding byte_behind
sound-byte job byte sound =
    by-test (ltb job.end 29)
    (λ t. rw t (record { long = length-set job.bytes job.end byte ∙ sound.long; few = omega (arith, ltb-true job.end 29 t) }))
    (λ t. rw t sound)

sound-after : (part : List ℕ) (job : PortableJob) → Sound job → Sound (job_after job part)
unfolding behind
sound-after [] job sound = sound
sound-after (byte ∷ part) job sound = sound-after part (byte_behind job byte) (sound-byte job byte sound)

-- what is kept after a byte and after a part
byte-then : (job : PortableJob) (byte : ℕ) (part : List ℕ) → Sound job
    → take 29 (text_of (byte_behind job byte) ++ part) ≡ take 29 (take job.end job.bytes ++ byte ∷ part)
unfolding byte_behind
byte-then job byte part sound =
    by-test (ltb job.end 29)
    (λ t. let more = ltb-true job.end 29 t in
    let one : take (job.end + 1) (set job.bytes job.end byte) ≡ take job.end job.bytes ++ byte ∷ [] =
    rw add-one (take-suc-set job.bytes job.end byte (omega (arith, sound.long))) in
    rw (t, one, append_assoc) refl)
    (λ t. rw t (full job sound (ltb-false job.end 29 t) byte part))

after_kept : (part : List ℕ) (job : PortableJob) → Sound job
    → held (job_after job part) ≡ take 29 (take job.end job.bytes ++ part)
unfolding behind
after_kept [] job sound =
    let all = length-take-le job.end job.bytes (omega (arith, sound.long, sound.few)) in
    rw append-nil (sym (take_all 29 (take job.end job.bytes) (omega (arith, all, sound.few))))
after_kept (byte ∷ part) job sound = after_kept part (byte_behind job byte) (sound-byte job byte sound) ∙ byte-then job byte part sound

begun-sound : Sound begun
begun-sound = record { long = refl; few = omega arith }

-- of an input they are the first 29 bytes
pub first-bytes : (input : List ℕ) → held (job_after begun input) ≡ take 29 input
first-bytes input = after_kept input begun begun-sound
