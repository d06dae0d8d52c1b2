-- The promises of parts and of ends, from what was stored. Assumes nothing.
use Prim.Native.Nat.{ℕ, ◌+◌, ◌-◌, ◌≤◌, ◌<◌, min}
use Rattle.std.proofs.Common.{Some, None}
use mathlib.Core.Path.{◌≡◌, refl, sym, ap, ◌∙◌, subst}
use mathlib.Core.List.{List, [], ◌∷◌, ◌++◌}
use native.Mathlib.Omega.{arith}
use lib.ListN.{length, take, drop, length-take}
use lib.Seq.{sets}
use Rattle.hex_text.specs.declared.state.HexText.{HexText}
use Rattle.hex_text.specs.declared.state.Stand.{Stand}
use Rattle.hex_text.specs.declared.state.Stand.TheVariants.{Between, Digit, Byte, ByteReturn, Return, Comment, Bad}
use Rattle.hex_text.specs.declared.reading.TextOver.{TextOver}
use Rattle.hex_text.specs.declared.reading.TextRead.{TextRead}
use Rattle.hex_text.specs.declared.source.Source.TheVariants.{Bytes, Text}
use Rattle.hex_text.specs.Machine.{after, told, ended, end_given}
use Rattle.hex_text.specs.Promises.{Stored, BytesPut, PartRead, Put, TextPut, TextEnded, fitting}
use Rattle.hex_text.specs.Source.{source_after, source_told, source_ended, source_last, has_room, SourceTaken, SourceEnded}
use Rattle.hex_text.proofs.Putting.{stored-none, stored-whole, told-within}

-- what has room and is stored, with what stands before and after it
stored-fitting : (l bytes : List ℕ) (at end : ℕ) → end ≡ at + length bytes → length bytes ≤ length l - at
    → sets l at bytes ≡ take at l ++ bytes ++ drop end l
stored-fitting l [] at end e h = stored-none l at end e
stored-fitting l (b ∷ bytes) at end e h = stored-whole l (b ∷ bytes) at end e (omega (arith, h))

-- ---- a part of a text

pub text-none : (before : HexText) (text buffer : List ℕ) (at count : ℕ) → count ≡ fitting (length text) buffer at → count ≡ 0
    → TextPut before text buffer buffer at (record { text = before; used = 0; end = at })
unfolding TextPut after told
text-none before text buffer at count e z =
    subst (λ (n : ℕ). Put after told n before text buffer buffer at before 0 at) (sym z ∙ e)
    (record { taken = refl; become = refl; ended = omega arith; stored = stored-none buffer at at (omega arith) })

pub text-put : (before : HexText) (text buffer₀ buffer : List ℕ) (at count : ℕ) (r : TextRead) → count ≡ fitting (length text) buffer₀ at
    → PartRead before (take count text) buffer₀ buffer at r → TextPut before text buffer₀ buffer at r
unfolding TextPut fitting
text-put before text buffer₀ buffer at count r e read =
    let n = min (length text) (length buffer₀ - at) in
    let p : PartRead before (take n text) buffer₀ buffer at r = subst (λ (k : ℕ). PartRead before (take k text) buffer₀ buffer at r) e read in
    record {
      taken = omega (arith, p.taken, length-take n text);
      become = p.become;
      ended = p.put.ended;
      stored =
          p.put.stored
          ∙ stored-fitting buffer₀ (told before (take n text)) at r.end p.put.ended
          (omega (arith, told-within before (take n text), length-take n text));
    }

-- ---- the end of a text

end-one : (at : Stand) → length (end_given at) ≤ 1
unfolding end_given
end-one Between = omega arith
end-one (Digit high) = omega arith
end-one (Byte value) = omega arith
end-one (ByteReturn value) = omega arith
end-one Return = omega arith
end-one Comment = omega arith
end-one Bad = omega arith

pub text-ended : (before : HexText) (buffer₀ buffer bytes : List ℕ) (at end : ℕ) (text : HexText) → at < length buffer₀ → bytes ≡ end_given before.stand
    → Stored bytes buffer₀ buffer at end → text ≡ ended before → TextEnded before buffer₀ buffer at (Some (record { text = text; end = end }))
unfolding TextEnded
text-ended before buffer₀ buffer bytes at end text h e s t =
    let last = end_given before.stand in
    let p : Stored last buffer₀ buffer at end = subst (λ (xs : List ℕ). Stored xs buffer₀ buffer at end) e s in (
      h,
      t,
      record {
        ended = p.ended;
        stored = p.stored ∙ stored-fitting buffer₀ last at end p.ended (omega (arith, h, end-one before.stand));
      },
    )

-- ---- an input

module _ (raw input₀ input : List ℕ) (held : ℕ) where
  pub bytes-taken : (used end : ℕ) → BytesPut raw input₀ input held used → end ≡ held + used
      → SourceTaken Bytes raw input₀ input held (record { source = Bytes; used = used; held = end })
  unfolding SourceTaken source_after source_told fitting
  bytes-taken used end p h =
      let n = min (length raw) (length input₀ - held) in
      let size : length (take n raw) ≡ n = omega (arith, length-take n raw) in
      record {
        taken = p.taken;
        become = refl;
        ended = omega (arith, h, p.taken, size);
        stored =
            p.stored
            ∙ ap (λ (k : ℕ). sets input₀ held (take k raw)) p.taken
            ∙ stored-fitting input₀ (take n raw) held end (omega (arith, h, p.taken, size)) (omega (arith, size));
      }

  pub text-taken : (text : HexText) (read : TextRead) → TextPut text raw input₀ input held read
      → SourceTaken (Text text) raw input₀ input held (record { source = Text read.text; used = read.used; held = read.end })
  unfolding SourceTaken TextPut source_after source_told
  text-taken text read p = record { taken = p.taken; become = ap Text p.become; ended = p.ended; stored = p.stored }

pub bytes-ended : (input : List ℕ) (held : ℕ) → SourceEnded Bytes input input held (Some (record { source = Bytes; held = held }))
unfolding SourceEnded source_ended source_last has_room
bytes-ended input held = (tt, refl, record { ended = omega arith; stored = stored-none input held held (omega arith) })

module _ (input₀ input : List ℕ) (held : ℕ) where
  pub text-source-ended : (text : HexText) (over : TextOver) → TextEnded text input₀ input held (Some over)
      → SourceEnded (Text text) input₀ input held (Some (record { source = Text over.text; held = over.end }))
  unfolding SourceEnded TextEnded source_ended source_last has_room
  text-source-ended text over p = (p.0, ap Text p.1, p.2)

  pub text-source-kept : (text : HexText) → TextEnded text input₀ input held None → SourceEnded (Text text) input₀ input held None
  unfolding SourceEnded TextEnded has_room
  text-source-kept text p = (λ h. omega (arith, p.0, h), p.1)
